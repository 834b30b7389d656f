-- How many bytes printed parameters take.
use Rattle.std.proofs.Common.{◌≡◌, ◌≤◌, ◌<◌, ◌+◌, ◌-◌, ◌^◌, ℕ, min, List, [], ◌∷◌, ◌++◌, length, length-append, take, drop, take-append-drop, Option, refl, sym, ap, ◌∙◌, arith}
use Rattle.std.specs.List.{filter_map, zip}
use Rattle.std.specs.Fmt.{decimal}
use Rattle.std.specs.Prelude.{codes}
use Rattle.std.proofs.lemmas.List.Elements.{filter_map-append}
use Rattle.opus_sdp.specs.Table.{table}
use Rattle.opus_sdp.specs.Printed.{param_text, params_after, row_param, known_params, printed_params, fmtp_text, rtpmap_text}
use Rattle.opus_sdp.specs.Writing.{separator_behind, Counts}
use Rattle.opus_sdp.specs.declared.param.Param.{Param}
use Rattle.opus_sdp.specs.declared.fmtp.Fmtp.{Fmtp}
use Rattle.opus_sdp.specs.declared.fmtp.Rtpmap.{Rtpmap}
use Rattle.opus_sdp.proofs.WriteLemmas.{params_after-append, printed-more, rows_before}

-- ---- sizes

pub counts_is : (n : ℕ) → Counts n n
counts_is n = record { most = omega arith; exact = λ _. refl }

-- a sum that stops at the greatest number
pub counts_sum : (a b m n s : ℕ) → Counts a m → Counts b n → s ≡ min (a + b) (2 ^ 64 - 1) → Counts s (m + n)
counts_sum a b m n s first second is = record {
  most = let p = first.most in let q = second.most in grind (arith, is, p, q);
  exact = λ less.
      let p : a < 2 ^ 64 - 1 → a ≡ m = first.exact in
      let q : b < 2 ^ 64 - 1 → b ≡ n = second.exact in
      let small : a < 2 ^ 64 - 1 = grind (arith, is, less) in
      let little : b < 2 ^ 64 - 1 = grind (arith, is, less) in
      let e = p small in
      let f = q little in
      grind (arith, is, less, e, f);
}

-- ---- printed parameters

-- the byte in front of the first one is one byte
pub size-behind : (a b : ℕ) (params : List Param) → length (params_after a params) ≡ length (params_after b params)
size-behind a b [] = refl
size-behind a b (p ∷ params) = refl

size-one : (separator : ℕ) (p : Param) → length (params_after separator (p ∷ [])) ≡ length p.name + length p.value + 2
size-one separator p =
    omega (arith, length-append (param_text p) [], length-append p.name (61 ∷ p.value))

pub size-more : (separator : ℕ) (params : List Param) (p : Param)
    → length (params_after separator (params ++ p ∷ [])) ≡ length (params_after separator params) + (length p.name + length p.value + 2)
size-more separator params p =
    ap length (params_after-append separator params (p ∷ []))
    ∙ length-append (params_after separator params) (params_after (separator_behind separator params) (p ∷ []))
    ∙ ap (λ n. length (params_after separator params) + n) (size-one (separator_behind separator params) p)

-- the first ones take no more than all
pub size-within : (separator : ℕ) (params more all : List Param) → params ++ more ≡ all
    → length (params_after separator params) ≤ length (params_after separator all)
size-within separator params more all e =
    omega (
      arith,
      ap (λ ps. length (params_after separator ps)) e,
      ap length (params_after-append separator params more),
      length-append (params_after separator params) (params_after (separator_behind separator params) more),
    )

pub rows-split : (i : ℕ) (numbers : List (Option ℕ))
    → rows_before i numbers ++ filter_map row_param (drop i (zip table numbers)) ≡ filter_map row_param (zip table numbers)
rows-split i numbers =
    sym (filter_map-append row_param (take i (zip table numbers)) (drop i (zip table numbers)))
    ∙ ap (filter_map row_param) (take-append-drop i (zip table numbers))

abbrev pub param : List ℕ → List ℕ → Param
param name value = record { name = name; value = value }

-- one parameter more has room where all have
pub room-more : (old out : List ℕ) (separator next : ℕ) (params : List Param) (p : Param) (more all : List Param) (before now : ℕ)
    → out ≡ old ++ params_after separator params → next ≡ separator_behind separator params
    → (params ++ p ∷ []) ++ more ≡ all → length old + length (params_after separator all) ≤ before → before ≤ now
    → length out + length (next ∷ param_text p) ≤ now
room-more old out separator next params p more all before now is behind e room grown =
    let printed = printed-more old out (out ++ next ∷ param_text p) separator next params p is behind refl in
    let within = size-within separator (params ++ p ∷ []) more all e in
    omega (
      arith,
      ap length printed,
      length-append out (next ∷ param_text p),
      length-append old (params_after separator (params ++ p ∷ [])),
      within,
      room,
      grown,
    )

-- ---- lines

pub size-fmtp : (m : Fmtp) → length (fmtp_text m ++ 10 ∷ [])
    ≡ ((length (decimal m.payload_type) + 8) + length (params_after 32 (known_params m))) + length (params_after (separator_behind 32 (known_params m)) m.others)
unfolding fmtp_text
size-fmtp m =
    let known = params_after 32 (known_params m) in
    let others = params_after (separator_behind 32 (known_params m)) m.others in
    let digits = decimal m.payload_type in
    let all = params_after 32 (printed_params m) in
    omega (
      arith,
      ap length (params_after-append 32 (known_params m) m.others),
      length-append known others,
      length-append digits all,
      length-append (digits ++ all) (10 ∷ []),
    )

pub size-rtpmap : (r : Rtpmap) → length (rtpmap_text r ++ 10 ∷ []) ≡ length (decimal r.payload_type) + 23
unfolding rtpmap_text
size-rtpmap r =
    let digits = decimal r.payload_type in
    omega (arith, length-append digits (codes " opus/48000/2"), length-append (digits ++ codes " opus/48000/2") (10 ∷ []))
