-- What the job send makes of records.
use Rattle.std.proofs.Common.{◌≡◌, ℕ, ◌+◌, ◌<◌, ◌≤◌, Bool, true, false, nat_lt, if◌then◌else◌, List, [], ◌∷◌, ◌++◌, length, flat_map, Option, None, Some, refl, sym, ap, ◌∙◌, append_assoc, append-nil, length-append, lt-ltb, arith}
use Rattle.std.proofs.lemmas.List.{length-map}
use Rattle.std.proofs.lemmas.List.Concat.{flat_map-append}
use Rattle.job_loop.specs.Shown.{Shown}
use Rattle.job_loop.specs.Meaning.{Run, going, broke, goes, adds, runs, closes, outcome}
use Rattle.job_loop.specs.declared.input_end.InputEnd.{InputEnd}
use Rattle.job_loop.specs.declared.input_end.InputEnd.TheVariants as ends
use Rattle.job_loop.proofs.RunLemmas.{runs-append, runs-broke}
use Rattle.opus_packet.specs.declared.fault.Fault.{Fault}
use Rattle.opus_packet.specs.Value.{PacketValue}
use Rattle.rec_store.specs.Dump.{dump_record_bytes, dump_head_bytes}
use Rattle.rtp_packet.specs.declared.packet.RtpFields.{RtpFields}
use Rattle.pack_records.specs.declared.cut.Cut.{Cut}
use Rattle.pack_records.specs.declared.item.Found.{Found}
use Rattle.pack_records.specs.declared.item.Found.TheVariants.{Packet, Lost, Bad}
use Rattle.pack_records.specs.declared.item.Item.{Item}
use Rattle.pack_jobs.specs.declared.refusal.Why.TheVariants.{StoreCut}
use Rattle.pack_jobs.specs.Refusal.{refusal_at, Refusal}
use Rattle.job_ends.specs.Refusal.{told, refusal_of}
use Rattle.pack_jobs.specs.Written.{IsGood, AreGood, FirstBad}
use Rattle.job_ends.specs.Each.{IsUncut}
use Rattle.net_jobs.specs.Capture.{captured, captured_behind, capture_of, captured_packet, packet_text, record_text}
use Rattle.net_jobs.specs.Given.{given_all}
use Rattle.net_jobs.specs.Send.{given_of, most_records, send_found, send_end, send}

-- the text of a record is that of its records of the capture
packet_text-is : (first : RtpFields) (before : List (Option PacketValue)) (v : PacketValue)
    → packet_text first before v ≡ dump_record_bytes (captured_packet first before v)
unfolding packet_text
packet_text-is first before v = refl

record_text-is : (first : RtpFields) (before : List (Option PacketValue)) (given : Option PacketValue)
    → record_text first before given ≡ flat_map dump_record_bytes (captured first before given)
record_text-is first before None = refl
record_text-is first before (Some v) =
    packet_text-is first before v ∙ sym (append-nil (dump_record_bytes (captured_packet first before v)))

-- a step

given_by : (first : RtpFields) (before : List (Option PacketValue)) (given : Option PacketValue) (text : List ℕ) (b : Bool)
    → b ≡ true
    → ◌≡◌ {A = Run (List (Option PacketValue)) Refusal}
    (adds text (if b then goes (record_text first before given) (before ++ given ∷ []) else goes [] before))
    (going (text ++ record_text first before given) (before ++ given ∷ []))
given_by first before given text true few = refl
given_by first before given text false few = absurd cc

given_found : (first : RtpFields) (before : List (Option PacketValue)) (r : Shown Item) (found : Found) (text : List ℕ)
    → IsGood found → length before < most_records
    → adds text (send_found first before r found)
    ≡ going (text ++ record_text first before (given_of found r.bytes)) (before ++ given_of found r.bytes ∷ [])
given_found first before r (Packet framing shape size) text good few =
    given_by first before (given_of (Packet framing shape size) r.bytes) text (nat_lt (length before) most_records)
    (lt-ltb (length before) most_records few)
given_found first before r Lost text good few =
    given_by first before None text (nat_lt (length before) most_records) (lt-ltb (length before) most_records few)
given_found first before r (Bad fault) text good few = absurd good

-- runs

abbrev texts_behind : RtpFields → List (Option PacketValue) → List (Shown Item) → List ℕ
texts_behind first before rs = flat_map dump_record_bytes (captured_behind first before (given_all rs))

texts-more : (first : RtpFields) (before : List (Option PacketValue)) (r : Shown Item) (rs : List (Shown Item))
    → record_text first before (given_of r.item.found r.bytes)
    ++ texts_behind first (before ++ given_of r.item.found r.bytes ∷ []) rs ≡ texts_behind first before (r ∷ rs)
texts-more first before r rs =
    let given = given_of r.item.found r.bytes in
    ap (λ l. l ++ texts_behind first (before ++ given ∷ []) rs) (record_text-is first before given)
    ∙ sym (flat_map-append dump_record_bytes (captured first before given)
    (captured_behind first (before ++ given ∷ []) (given_all rs)))

pub given_runs : (first : RtpFields) (text : List ℕ) (before : List (Option PacketValue)) (rs : List (Shown Item))
    → AreGood rs → length before + length rs ≤ most_records
    → runs (send first) (going text before) rs ≡ going (text ++ texts_behind first before rs) (before ++ given_all rs)
given_runs first text before [] good few =
    ap (λ l. going l before) (sym (append-nil text)) ∙ ap (going (text ++ [])) (sym (append-nil before))
given_runs first text before (r ∷ rs) good few =
    let given = given_of r.item.found r.bytes in
    let own = record_text first before given in
    let behind = before ++ given ∷ [] in
    let few' : length behind + length rs ≤ most_records = omega (arith, few, length-append before (given ∷ [])) in
    ap (λ run. runs (send first) run rs) (given_found first before r r.item.found text good.0 (omega (arith, few)))
    ∙ given_runs first (text ++ own) behind rs good.1 few'
    ∙ ap (λ l. going l (behind ++ given_all rs)) (append_assoc text own (texts_behind first behind rs)
    ∙ ap (λ l. text ++ l) (texts-more first before r rs))
    ∙ ap (going (text ++ texts_behind first before (r ∷ rs))) (append_assoc before (given ∷ []) (given_all rs))

-- outcomes

given_outcome : (first : RtpFields) (rs : List (Shown Item)) (end : InputEnd Cut) → AreGood rs
    → length rs ≤ most_records
    → outcome (send first) rs end ≡ adds (capture_of first (given_all rs)) (send_end (given_all rs) end)
given_outcome first rs end good few =
    ap (closes (send first) end) (given_runs first dump_head_bytes [] rs good (omega (arith, few)))

uncut : (records : List (Option PacketValue)) (text : List ℕ) (end : InputEnd Cut) → IsUncut end
    → adds text (send_end records end) ≡ going text tt
uncut records text ends.Closed is = ap (λ l. going l tt) (append-nil text)
uncut records text (ends.Cut c) is = absurd is
uncut records text ends.Past is = ap (λ l. going l tt) (append-nil text)

pub taken_outcome : (first : RtpFields) (rs : List (Shown Item)) (end : InputEnd Cut) → AreGood rs
    → length rs ≤ most_records → IsUncut end → outcome (send first) rs end ≡ going (capture_of first (given_all rs)) tt
taken_outcome first rs end good few whole =
    given_outcome first rs end good few ∙ uncut (given_all rs) (capture_of first (given_all rs)) end whole

pub cut_outcome : (first : RtpFields) (rs : List (Shown Item)) (c : Cut) → AreGood rs → length rs ≤ most_records
    → outcome (send first) rs (ends.Cut c)
    ≡ broke (capture_of first (given_all rs)) (refusal_of (length rs) c.place StoreCut)
cut_outcome first rs c good few =
    given_outcome first rs (ends.Cut c) good few
    ∙ ap (λ l. broke l (refusal_of (length (given_all rs)) c.place StoreCut)) (append-nil (capture_of first (given_all rs)))
    ∙ ap (λ n. broke (capture_of first (given_all rs)) (refusal_of n c.place StoreCut)) (length-map rs (λ r. given_of r.item.found r.bytes))

told_small : (n : ℕ) → n ≤ most_records → told n ≡ n
told_small n few = omega arith

bad_found : (first : RtpFields) (before : List (Option PacketValue)) (r : Shown Item) (text : List ℕ) (found : Found)
    (fault : Fault) → found ≡ Bad fault
    → adds text (send_found first before r found) ≡ broke text (refusal_at (length before) r.item fault)
bad_found first before r text found fault is =
    ap (λ f. adds text (send_found first before r f)) is
    ∙ ap (λ l. broke l (refusal_at (length before) r.item fault)) (append-nil text)

pub refused_outcome : (first : RtpFields) (rs : List (Shown Item)) (end : InputEnd Cut) (f : Refusal) (at : FirstBad rs f)
    → length at.before ≤ most_records
    → outcome (send first) rs end ≡ broke (capture_of first (given_all at.before)) f
refused_outcome first rs end f at few =
    let given = given_all at.before in
    let text = capture_of first given in
    let count : length given ≡ told (length at.before) =
    length-map at.before (λ r. given_of r.item.found r.bytes) ∙ sym (told_small (length at.before) few) in
    ap (λ l. outcome (send first) l end) at.parts
    ∙ ap (closes (send first) end) (runs-append (send first) (going dump_head_bytes []) at.before (at.first ∷ at.after)
    ∙ ap (λ run. runs (send first) run (at.first ∷ at.after)) (given_runs first dump_head_bytes [] at.before at.good (omega (arith, few)))
    ∙ ap (λ run. runs (send first) run at.after) (bad_found first given at.first text at.first.item.found at.fault at.holds)
    ∙ runs-broke (send first) text (refusal_at (length given) at.first.item at.fault) at.after)
    ∙ ap (λ n. broke text (refusal_at n at.first.item at.fault)) count
    ∙ ap (broke text) (sym at.refusal_is)
