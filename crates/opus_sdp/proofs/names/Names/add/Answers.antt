use Rattle.std.proofs.Common.{◌≡◌, not, ◌||◌, ap, ◌∙◌}
use Rattle.std.specs.List.{list_any}
use Rattle.std.specs.Str.{bytes_eq}
use Rattle.std.specs.Ordering.{is_eq, nat_cmp}
use Rattle.std.specs.Cmp.Lexicographic.{slice_cmp}
use Rattle.opus_sdp.specs.Table.{lowered}
use Rattle.opus_sdp.specs.Names.{has_met}
use Rattle.opus_sdp.proofs.NamesLemmas.{IfOk-map_err, OnOk-map_err, list_any_same, list_any-insert_key, found_text, tied_texts}
use Rattle.opus_sdp.proofs.names.Names.add.Goals as goal

pub returns-clause-added : goal.returns-clause-added
returns-clause-added c =
    let name = c.args.name.now in
    let key = c.in_ok-key.key in
    let found : list_any (λ x. is_eq (slice_cmp nat_cmp key.items x.items)) c.args.self.now.lowered.keys ≡ has_met c.args.self.now name =
    list_any_same _ _ (λ x. found_text key.items x.items ∙ ap (bytes_eq x.items) c.in_ok-key.ensures) c.args.self.now.lowered.keys in
    IfOk-map_err _ (λ new. new ≡ not (has_met c.args.self.now name)) c.insert.result c.map_err.result c.map_err.ensures.cases
    (rw found at c.insert.ensures.added)

pub returns-clause-names : goal.returns-clause-names
returns-clause-names c =
    let name = c.args.name.now in
    let key = c.in_ok-key.key in
    let keys = c.args.self.now.lowered.keys in
    OnOk-map_err _ _ _ c.insert.result c.map_err.result c.map_err.ensures.cases
    (λ put. λ q. ap (list_any (λ x. bytes_eq x.items (lowered q))) put
    ∙ list_any-insert_key (λ x y. slice_cmp nat_cmp x.items y.items) (λ x. bytes_eq x.items (lowered q)) key
    (λ x tie. tied_texts key.items x.items (lowered q) tie) keys
    ∙ ap (λ n. has_met c.args.self.now q || bytes_eq n (lowered q)) c.in_ok-key.ensures)
    c.insert.ensures.keys
