-- A packet in its kept form is in its canonical form where it has no padding, and its first bytes tell how long it lasts.
use Rattle.std.proofs.Common.{◌≡◌, ℕ, zero, suc, ◌*◌, ◌<◌, ◌≤◌, Bool, true, false, nat_lt, if◌then◌else◌, List, [], ◌∷◌, ◌++◌, length, map, Option, None, Some, All, flat_map, append_assoc, refl, sym, ap, ◌∙◌, subst, ltb-false, arith}
use Rattle.std.specs.List.{concat}
use Rattle.std.proofs.lemmas.List.{length-map}
use Rattle.std.proofs.lemmas.List.Elements.{All-nil, All-cons}
use Rattle.opus_flen.specs.FrameLength.{length_bytes}
use Rattle.opus_toc.specs.Toc.{config_of, code_of, toc_byte}
use Rattle.opus_toc.specs.Configuration.{samples_of}
use Rattle.opus_toc.proofs.TocLemmas.{config_of-toc_byte, code_of-toc_byte}
use Rattle.opus_packet.specs.declared.shape.Shape.{Shape}
use Rattle.opus_packet.specs.Value.{PacketValue, IsPacketValue, duration_of, max_frame}
use Rattle.opus_packet.specs.Canonical.{canonical, keep_shape, kept_form}
use Rattle.opus_packet.specs.Header.{header_bytes, frame_count, given_lengths, count_and_padding, padding_data}
use Rattle.opus_packet.specs.HeaderRead.{padded_of, frames_of, shape_of}
use Rattle.opus_packet.specs.PacketGrammar.{SuitsCode, header_for}
use Rattle.opus_packet.proofs.FirstBytes.{count_of, padded_of-count_of, frames_of-count_of}
use Rattle.opus_packet.proofs.CutLemmas.{lengths-each}
use Rattle.opus_packet.proofs.GrammarLemmas.{sizes_of}
use Rattle.opus_packet.proofs.LengthsReadLemmas.{AreLengths}
use Rattle.opus_packet.proofs.SpellingLemmas.{kept_form-nil}
use Rattle.opus_writer.proofs.KeptLemmas.{kept-is_packet}
use Rattle.opus_writer.proofs.MostBytes.{canonical-most}
use Rattle.opus_feed.specs.declared.framing.Framing.TheVariants.{Whole}
use Rattle.pack_records.specs.Fits.{IsForm}
use Rattle.pack_records.specs.Lent.{lent_value}
use Rattle.pack_records.proofs.LentLemmas.{lent_value-form}
use Rattle.net_jobs.specs.Plain.{IsPlain, plain_frames}

none≢some : (n : ℕ) → ◌≡◌ {A = Option ℕ} None (Some n) → ⊥
none≢some n e = cc

some_is : (m n : ℕ) → ◌≡◌ {A = Option ℕ} (Some m) (Some n) → m ≡ n
some_is m n e = cc

-- so many frames, and no padding
pub record TellsPlain (count pad n : ℕ) : Type 0 where
  pub frames : n ≡ count
  pub plain : pad ≡ 0

-- what a count byte tells
counted : (vbr padded : Bool) (count pad n : ℕ) → count < 64 → nat_lt 0 pad ≡ padded
    → (if padded_of (count_of vbr padded count) then None else Some (frames_of (count_of vbr padded count))) ≡ Some n
    → TellsPlain count pad n
counted vbr true count pad n below is told =
    absurd (none≢some n (ap (λ (b : Bool). if b then None else Some (frames_of (count_of vbr true count)))
    (sym (padded_of-count_of vbr true count below)) ∙ told))
counted vbr false count pad n below is told =
    let none : pad ≤ 0 = ltb-false 0 pad is in
    let some = ap (λ (b : Bool). if b then None else Some (frames_of (count_of vbr false count)))
    (sym (padded_of-count_of vbr false count below)) ∙ told in
    record {
      frames = sym (some_is (frames_of (count_of vbr false count)) n some) ∙ frames_of-count_of vbr false count below;
      plain = omega arith;
    }

-- what stands behind a TOC byte tells the frames
tells : (code : ℕ) (vbr : Bool) (pad : ℕ) (frames : List (List ℕ)) (count n : ℕ) (more rest : List ℕ)
    → SuitsCode code vbr pad frames → count ≡ length frames → count < 64
    → rest ≡ count_and_padding (shape_of code vbr pad) count ++ more → plain_frames code rest ≡ Some n
    → TellsPlain count pad n
tells zero vbr pad frames count n more rest suits is below rest_is told =
    record { frames = sym (some_is 1 n told) ∙ sym suits.2 ∙ sym is; plain = suits.1 }
tells (suc zero) vbr pad frames count n more rest suits is below rest_is told =
    record { frames = sym (some_is 2 n told) ∙ sym suits.2 ∙ sym is; plain = suits.1 }
tells (suc (suc zero)) vbr pad frames count n more rest suits is below rest_is told =
    record { frames = sym (some_is 2 n told) ∙ sym suits.2 ∙ sym is; plain = suits.1 }
tells (suc (suc (suc zero))) vbr pad frames count n more rest suits is below rest_is told =
    counted vbr (nat_lt 0 pad) count pad n below refl (ap (plain_frames 3) (sym rest_is) ∙ told)
tells (suc (suc (suc (suc code)))) vbr pad frames count n more rest suits is below rest_is told = absurd suits

code-below : (code : ℕ) (vbr : Bool) (pad : ℕ) (frames : List (List ℕ)) → SuitsCode code vbr pad frames → code < 4
code-below zero vbr pad frames suits = omega arith
code-below (suc zero) vbr pad frames suits = omega arith
code-below (suc (suc zero)) vbr pad frames suits = omega arith
code-below (suc (suc (suc zero))) vbr pad frames suits = omega arith
code-below (suc (suc (suc (suc code)))) vbr pad frames suits = absurd suits

head_is : (x : ℕ) (xs : List ℕ) (y : ℕ) (ys : List ℕ) → x ∷ xs ≡ y ∷ ys → x ≡ y
head_is x xs y ys e = cc

tail_is : (x : ℕ) (xs : List ℕ) (y : ℕ) (ys : List ℕ) → x ∷ xs ≡ y ∷ ys → xs ≡ ys
tail_is x xs y ys e = cc

-- the bytes behind the TOC byte of a packet
pub record Opens (v : PacketValue) (s : Shape) (toc : ℕ) (rest : List ℕ) : Type 0 where
  pub more : List ℕ
  pub toc_is : toc ≡ toc_byte v.config v.stereo s.code
  pub rest_is : rest ≡ count_and_padding s (frame_count (header_for v s).sizes) ++ more

opens : (v : PacketValue) (s : Shape) (tail : List ℕ) (toc : ℕ) (rest : List ℕ)
    → toc ∷ rest ≡ header_bytes (header_for v s) ++ concat v.frames ++ tail → Opens v s toc rest
unfolding header_bytes
opens v s tail toc rest spelled =
    let h = header_for v s in
    let front = count_and_padding s (frame_count h.sizes) in
    let lens = flat_map length_bytes (given_lengths h.sizes) in
    let body = concat v.frames in
    record {
      more = lens ++ (body ++ tail);
      toc_is = head_is toc rest (toc_byte v.config v.stereo s.code) (front ++ lens ++ body ++ tail) spelled;
      rest_is = tail_is toc rest (toc_byte v.config v.stereo s.code) (front ++ lens ++ body ++ tail) spelled
          ∙ append_assoc (front ++ lens) body tail
          ∙ append_assoc front lens (body ++ tail);
    }

no_tail : (tail : List ℕ) (pad : ℕ) → length tail ≡ padding_data pad → pad ≡ 0 → tail ≡ []
no_tail [] pad size plain = refl
no_tail (x ∷ xs) pad size plain =
    let none : length (x ∷ xs) ≡ 0 = size ∙ ap padding_data plain in absurd (omega arith)

all_short : (ns : List ℕ) → AreLengths ns → All (λ n. n ≤ max_frame) ns
all_short [] each = All-nil (λ n. n ≤ max_frame)
all_short (n ∷ ns) each = All-cons (λ m. m ≤ max_frame) n ns each.0 (all_short ns each.1)

pub canonical-short : (v : PacketValue) → IsPacketValue v → length (canonical v) ≤ 61295
canonical-short v is =
    canonical-most v (map length v.frames) refl (omega (arith, is.some, length-map v.frames length))
    (omega (arith, is.most, length-map v.frames length)) (all_short (map length v.frames) (lengths-each v.frames is.each))

-- a packet in its kept form whose first bytes tell so many frames, and no padding
pub plain-told : (bytes rest : List ℕ) (toc n : ℕ) → IsForm Whole bytes → bytes ≡ toc ∷ rest
    → plain_frames (code_of toc) rest ≡ Some n → IsPlain Whole bytes (n * samples_of (config_of toc))
plain-told bytes rest toc n form begins told =
    let v = form.value in
    let tail = form.tail in
    let s = keep_shape (map length v.frames) (length tail) in
    let p = kept-is_packet v tail form.is_value form.small in
    let sizes = sizes_of v s form.is_value p.suits in
    let first = opens v s tail toc rest (sym begins ∙ form.bytes_are ∙ p.spelled) in
    let below = code-below s.code s.vbr s.pad v.frames p.suits in
    let code : code_of toc ≡ s.code = ap code_of first.toc_is ∙ code_of-toc_byte v.config v.stereo s.code below in
    let config : config_of toc ≡ v.config = ap config_of first.toc_is ∙ config_of-toc_byte v.config v.stereo s.code below in
    let tells = tells s.code s.vbr s.pad v.frames (frame_count (header_for v s).sizes) n first.more rest p.suits
    sizes.count_is (omega (arith, sizes.count_is, form.is_value.most)) first.rest_is
    (ap (λ c. plain_frames c rest) (sym code) ∙ told) in
    let lasts : n * samples_of (config_of toc) ≡ duration_of v =
    ap (λ m. m * samples_of (config_of toc)) (tells.frames ∙ sizes.count_is) ∙ ap (λ c. length v.frames * samples_of c) config in
    let is_canonical : bytes ≡ canonical v =
    form.bytes_are ∙ ap (kept_form v) (no_tail tail s.pad p.padding tells.plain) ∙ kept_form-nil v in
    record {
      value = v;
      spells = ap (lent_value Whole) form.bytes_are ∙ lent_value-form Whole v tail form.is_value form.small;
      form = is_canonical;
      lasts = lasts;
      short = omega (arith, lasts, form.is_value.duration);
      size = omega (arith, ap length is_canonical, canonical-short v form.is_value);
    }

-- the same, as the parts of the product are found
pub plain-product : (bytes rest : List ℕ) (toc n config code frames samples : ℕ) → IsForm Whole bytes → bytes ≡ toc ∷ rest
    → config ≡ config_of toc → code ≡ code_of toc → plain_frames code rest ≡ Some n → frames ≡ n
    → samples ≡ samples_of config → IsPlain Whole bytes (frames * samples)
plain-product bytes rest toc n config code frames samples form begins config_is code_is told frames_is samples_is =
    subst (IsPlain Whole bytes)
    (sym (ap (λ m. m * samples) frames_is ∙ ap (λ m. n * m) (samples_is ∙ ap samples_of config_is)))
    (plain-told bytes rest toc n form begins (ap (λ c. plain_frames c rest) (sym code_is) ∙ told))
