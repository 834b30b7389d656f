use Rattle.std.proofs.Common.{◌≡◌, ◌-◌, ◌≤◌, length, take, flat_map, IfSome, sym, subst}
use Rattle.opus_flen.specs.FrameLength.{length_bytes}
use Rattle.opus_packet.specs.Lens.{spelling_of}
use Rattle.opus_packet.proofs.LensLemmas.{spelling-short, spelling-own}
use Rattle.opus_packet.proofs.lens.Lens.spelled.Goals as goal

pub returns-clause-bytes : goal.returns-clause-bytes
returns-clause-bytes c =
    let l = c.self.inside in
    let own = spelling-own l.before l.last l.count c.self.invariant.before (subst (λ ns. 1 ≤ length ns) (sym c.self.view_is) c.requires) in
    subst (λ r. IfSome r (λ bytes. bytes.now ≡ flat_map length_bytes (take (length c.args.self.now - 1) c.args.self.now))) (sym c.spelling.ensures.told)
    (subst (λ ns. IfSome (spelling_of l.before) (λ bytes. bytes.now ≡ flat_map length_bytes (take (length ns - 1) ns))) c.self.view_is own)

pub returns-clause-most : goal.returns-clause-most
returns-clause-most c =
    let l = c.self.inside in
    subst (λ r. IfSome r (λ bytes. length bytes.now ≤ 94)) (sym c.spelling.ensures.told)
    (spelling-short l.before l.last l.count c.self.invariant.before c.self.invariant.most)
