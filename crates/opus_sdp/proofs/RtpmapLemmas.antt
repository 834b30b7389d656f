-- A line `a=rtpmap:` is read where it is spelled.
use Rattle.std.proofs.Common.{◌≡◌, ◌≢◌, ◌<◌, ℕ, Bool, true, false, not, if◌then◌else◌, List, [], ◌∷◌, ◌++◌, length, Some, None, refl, sym, ap, ◌∙◌, arith}
use Rattle.std.specs.Prelude.{codes}
use Rattle.std.specs.Char.{to_ascii_lowercase}
use Rattle.std.specs.Fmt.{decimal}
use Rattle.std.specs.List.{list_all}
use Rattle.std.specs.Option.{option_or}
use Rattle.std.proofs.lemmas.Bool.{and_parts, and_from, both_ways, not-true}
use Rattle.std.proofs.lemmas.Bool.Decides.{nat_tests}
use Rattle.std.proofs.lemmas.Slice.Eq.{bytes_eq-Decides}
use Rattle.opus_sdp.specs.Text.{is_blank, trim_start, trim_end, trim}
use Rattle.text_numbers.specs.Number.{value_of}
use Rattle.opus_sdp.specs.Table.{lowered, same_name}
use Rattle.opus_sdp.specs.Grammar.{are_blank, is_apart, IsRtpmapLine}
use Rattle.opus_sdp.specs.Fault.{word_in, word_end, rest_in, front_fault, codec_fault, rtpmap_fault}
use Rattle.opus_sdp.specs.Reading.{rtpmap_in}
use Rattle.opus_sdp.specs.declared.fmtp.Rtpmap.{Rtpmap}
use Rattle.opus_sdp.specs.declared.fault.SdpFault.TheVariants.{Codec}
use Rattle.opus_sdp.proofs.TrimLemmas.{trim_start-blank, trim_start-at, trim_end-blank, trim_end-append_none}
use Rattle.opus_sdp.proofs.SpelledLemmas.{trim_end-full}
use Rattle.opus_sdp.proofs.LineLemmas.{front-read}
use Rattle.opus_sdp.proofs.FoundLemmas.{or-none, cut-text}
use Rattle.opus_sdp.proofs.LineFoundLemmas.{front-found}

-- the codec has no blank in it, whatever its letters' case

lowered-no_blank : (b : ℕ) → not (is_blank (to_ascii_lowercase b)) ≡ true → not (is_blank b) ≡ true
lowered-no_blank b other = grind (arith, nat_tests)

full : (text : List ℕ) → list_all (λ b. not (is_blank b)) (lowered text) ≡ true → list_all (λ b. not (is_blank b)) text ≡ true
full [] no_blank = refl
full (b ∷ text) no_blank =
    let (first, rest) = and_parts (not (is_blank (to_ascii_lowercase b))) (list_all (λ x. not (is_blank x)) (lowered text)) no_blank in
    and_from _ _ (lowered-no_blank b first) (full text rest)

codec-full : (codec : List ℕ) → same_name codec (codes "opus/48000/2") ≡ true → list_all (λ b. not (is_blank b)) codec ≡ true
codec-full codec same =
    full codec (ap (list_all (λ b. not (is_blank b))) ((bytes_eq-Decides (lowered codec) (lowered (codes "opus/48000/2"))).0 same))

full-start : (text more : List ℕ) → text ≢ [] → list_all (λ b. not (is_blank b)) text ≡ true → trim_start (text ++ more) ≡ text ++ more
full-start [] more some no_blank = absurd (some refl)
full-start (b ∷ text) more some no_blank =
    let (first, rest) = and_parts (not (is_blank b)) (list_all (λ x. not (is_blank x)) text) no_blank in
    trim_start-at b (text ++ more) (not-true (is_blank b) first)

codec-some : (codec : List ℕ) → same_name codec (codes "opus/48000/2") ≡ true → codec ≢ []
codec-some codec same empty = let none = sym (ap (λ l. same_name l (codes "opus/48000/2")) empty) ∙ same in cc

codec-left : (between codec after : List ℕ) → are_blank between ≡ true → are_blank after ≡ true
    → same_name codec (codes "opus/48000/2") ≡ true → trim (between ++ (codec ++ after)) ≡ codec
codec-left between codec after first last same =
    let no_blank = codec-full codec same in
    ap trim_end (trim_start-blank between (codec ++ after) first ∙ full-start codec after (codec-some codec same) no_blank)
    ∙ trim_end-append_none codec after (trim_end-blank after last) ∙ trim_end-full codec no_blank

blank-apart : (between more : List ℕ) → 0 < length between → are_blank between ≡ true → is_apart (between ++ more) ≡ true
blank-apart [] more some blank = absurd (omega arith)
blank-apart (b ∷ between) more some blank = (and_parts (is_blank b) (are_blank between) blank).0

-- a spelled line is read

pub rtpmap-none : (r : Rtpmap) (line : List ℕ) → IsRtpmapLine r line → rtpmap_fault line ≡ None
unfolding rtpmap_fault
rtpmap-none r line is =
    let text = is.between ++ (is.codec ++ is.after) in
    let front = front-read (codes "a=rtpmap:") r.payload_type text line is.fits
    (blank-apart is.between (is.codec ++ is.after) is.some is.blank_between) is.spelled in
    let codec = ap trim front.rest ∙ codec-left is.between is.codec is.after is.blank_between is.blank_after is.opus in
    let same : same_name (trim (rest_in 9 line)) (codes "opus/48000/2") ≡ true =
    ap (λ l. same_name l (codes "opus/48000/2")) codec ∙ is.opus in
    ap (λ f. option_or f (codec_fault line)) front.none ∙ ap (λ b. if b then None else Some (Codec (word_end 9 line))) same

abbrev pub rtpmap_of : ℕ → Rtpmap
rtpmap_of n = record { payload_type = n }

pub rtpmap-value : (r : Rtpmap) (line : List ℕ) → IsRtpmapLine r line → r ≡ rtpmap_in line
rtpmap-value r line is =
    let front = front-read (codes "a=rtpmap:") r.payload_type (is.between ++ (is.codec ++ is.after)) line is.fits
    (blank-apart is.between (is.codec ++ is.after) is.some is.blank_between) is.spelled in
    sym (ap rtpmap_of front.value)

-- a line that is read is spelled

codec-none : (same : Bool) (at : ℕ) → (if same then None else Some (Codec at)) ≡ None → same ≡ true
codec-none true at none = refl
codec-none false at none = cc

core-first : (core after : List ℕ) → core ≢ [] → list_all (λ b. not (is_blank b)) core ≡ true → is_apart (core ++ after) ≡ true → ⊥
core-first [] after some no_blank apart = some refl
core-first (b ∷ core) after some no_blank apart =
    let (first, rest) = and_parts (not (is_blank b)) (list_all (λ x. not (is_blank x)) core) no_blank in
    both_ways (is_blank b) (not-true (is_blank b) first) apart

some-before : (text before core after : List ℕ) → is_apart text ≡ true → text ≡ before ++ (core ++ after) → core ≢ []
    → list_all (λ b. not (is_blank b)) core ≡ true → 0 < length before
some-before text [] core after apart are some no_blank =
    absurd (core-first core after some no_blank (sym (ap is_apart are) ∙ apart))
some-before text (b ∷ before) core after apart are some no_blank = omega arith

pub rtpmap-spelled : (line : List ℕ) → rtpmap_fault line ≡ None → IsRtpmapLine (rtpmap_in line) line
unfolding rtpmap_fault
rtpmap-spelled line none =
    let (first, later) = or-none (front_fault (codes "a=rtpmap:") line) (codec_fault line) none in
    let front = front-found (codes "a=rtpmap:") line first in
    let text = rest_in 9 line in
    let same = codec-none (same_name (trim text) (codes "opus/48000/2")) (word_end 9 line) later in
    let cut = cut-text text in
    record {
      between = cut.before;
      codec = trim text;
      after = cut.after;
      fits = front.fits;
      spelled = front.spelled ∙ ap (λ l. codes "a=rtpmap:" ++ (decimal (value_of (word_in 9 line)) ++ l)) cut.are;
      some = some-before text cut.before (trim text) cut.after front.apart cut.are (codec-some (trim text) same) (codec-full (trim text) same);
      blank_between = cut.blank_before;
      blank_after = cut.blank_after;
      opus = same;
    }
