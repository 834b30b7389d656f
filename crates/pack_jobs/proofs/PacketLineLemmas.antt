-- The lines of a packet: the SILK frames of a frame, and texts that are written in pieces.
use Rattle.std.proofs.Common.{◌≡◌, ℕ, ◌+◌, ◌<◌, ◌≤◌, Bool, List, [], ◌∷◌, ◌++◌, length, Option, None, Some, sym, ap, ◌∙◌, subst, append_assoc, codes, decimal, refl, arith}
use Rattle.std.specs.Io.KnownBytes.{Appends}
use Rattle.std.proofs.KnownBytes.{Appends-trans}
use Rattle.job_loop.specs.Telling.{Front}
use Rattle.job_loop.proofs.RunLemmas.{Front-behind, Front-longer}
use Rattle.opus_toc.specs.Configuration.{samples_of, mode_of, bandwidth_of}
use Rattle.opus_toc.specs.Flags.{silk_frames_in, flags_by, frame_flags}
use Rattle.opus_toc.specs.declared.toc.Mode.{Mode}
use Rattle.opus_toc.specs.declared.toc.Mode.TheVariants.{Silk, Hybrid, Celt}
use Rattle.opus_toc.specs.declared.silk_flags.Flags.{Flags}
use Rattle.opus_toc.proofs.Table.{samples-most}
use Rattle.opus_packet.specs.Value.{PacketValue}
use Rattle.opus_packet.specs.declared.shape.Shape.{Shape}
use Rattle.pack_jobs.specs.PacketLines.{mode_name, band_name, channels_name, stream_name, kind_text, spelling_text, packet_line, flags_text, frame_line, frame_lines}

-- ---- the SILK frames of a frame

abbrev count_in : Option Flags → ℕ
count_in None = 0
count_in (Some f) = f.silk_frames

by-count : (mode : Mode) (n : ℕ) (stereo : Bool) (byte : ℕ) → count_in (flags_by mode n stereo byte) ≤ n
by-count Silk n stereo byte = omega arith
by-count Hybrid n stereo byte = omega arith
by-count Celt n stereo byte = omega arith

frame-count : (config : ℕ) (stereo : Bool) (frame : List ℕ) → config < 32 → count_in (frame_flags config stereo frame) ≤ 3
frame-count config stereo [] known = omega arith
frame-count config stereo (byte ∷ bytes) known =
    let most = samples-most config known in
    let count = by-count (mode_of config) (silk_frames_in (samples_of config)) stereo byte in omega arith

-- a frame has three SILK frames at most
pub flags_count : (config : ℕ) (stereo : Bool) (frame : List ℕ) (f : Flags) → config < 32
    → Some f ≡ frame_flags config stereo frame → f.silk_frames ≤ 3
flags_count config stereo frame f known is =
    subst (λ o. count_in o ≤ 3) (sym is) (frame-count config stereo frame known)

-- ---- texts before a line, piece by piece

pub kind_before : (config : ℕ) (stereo : Bool) (line : List ℕ)
    → kind_text config stereo ++ line
    ≡ codes "config " ++ (decimal config ++ (codes " " ++ (mode_name (mode_of config) ++ (codes " "
    ++ (band_name (bandwidth_of config) ++ (codes " " ++ (decimal (samples_of config) ++ (codes " samples "
    ++ (channels_name stereo ++ line)))))))))
unfolding kind_text
kind_before config stereo line = simp append_assoc refl

pub spelling_before : (shape : Shape) (count size : ℕ) (line : List ℕ)
    → spelling_text shape count size ++ line
    ≡ codes "code " ++ (decimal shape.code ++ (codes ", " ++ (decimal count ++ (codes " frames, pad "
    ++ (decimal shape.pad ++ (codes ", " ++ (decimal size ++ (codes " bytes" ++ line))))))))
unfolding spelling_text
spelling_before shape count size line = simp append_assoc refl

pub packet_pieces : (number stream : ℕ) (shape : Shape) (size : ℕ) (v : PacketValue)
    → packet_line number stream shape size v
    ≡ stream_name number stream ++ (codes ": " ++ (kind_text v.config v.stereo ++ (codes ", "
    ++ (spelling_text shape (length v.frames) size ++ 10 ∷ []))))
unfolding packet_line
packet_pieces number stream shape size v = simp append_assoc refl

pub frame_pieces : (number stream index config : ℕ) (stereo : Bool) (frame : List ℕ)
    → frame_line number stream index config stereo frame
    ≡ stream_name number stream ++ (codes "." ++ (decimal index ++ (codes ": " ++ (decimal (length frame)
    ++ (codes " bytes" ++ (flags_text stereo (frame_flags config stereo frame) ++ 10 ∷ []))))))
unfolding frame_line
frame_pieces number stream index config stereo frame = simp append_assoc refl

-- ---- a text that is written in pieces

-- all of a text but the rest stands behind what stood there
pub record HasPut (all rest : List ℕ) (old new : Option (List ℕ)) : Type 0 where
  pub text : List ℕ
  pub appended : Appends old new text
  pub parts : all ≡ text ++ rest

-- the next piece of the rest
pub HasPut-more : (all piece rest : List ℕ) (old mid new : Option (List ℕ)) → HasPut all (piece ++ rest) old mid
    → Appends mid new piece → HasPut all rest old new
HasPut-more all piece rest old mid new put more = record {
  text = put.text ++ piece;
  appended = Appends-trans old mid new put.text piece put.appended more;
  parts = put.parts ∙ sym (append_assoc put.text piece rest);
}

-- a stop within it
pub HasPut-front : (all piece rest : List ℕ) (old mid new : Option (List ℕ)) → HasPut all (piece ++ rest) old mid
    → Front piece mid new → Front all old new
HasPut-front all piece rest old mid new put front =
    subst (λ l. Front l old new) (sym put.parts)
    (Front-behind put.text (piece ++ rest) old mid new put.appended (Front-longer piece rest mid new front))

-- ---- the lines of frames

-- those of the frames before are written, of all frames of a value
abbrev pub HasLines : ℕ → ℕ → PacketValue → ℕ → List (List ℕ) → Option (List ℕ) → Option (List ℕ) → Type 0
HasLines number stream v index left =
    HasPut (frame_lines number stream 0 v.config v.stereo v.frames)
    (frame_lines number stream index v.config v.stereo left)

first_line : (number stream : ℕ) (v : PacketValue) (index : ℕ) (left others : List (List ℕ)) (frame : List ℕ)
    (config : ℕ) (stereo : Bool) → config ≡ v.config → stereo ≡ v.stereo → left ≡ frame ∷ others
    → frame_lines number stream index v.config v.stereo left
    ≡ frame_line number stream index config stereo frame
    ++ frame_lines number stream (index + 1) v.config v.stereo others
first_line number stream v index left others frame config stereo config_is stereo_is first =
    ap (λ l. frame_lines number stream index v.config v.stereo l) first
    ∙ ap (λ c. frame_line number stream index c v.stereo frame ++ frame_lines number stream (index + 1) v.config v.stereo others) (sym config_is)
    ∙ ap (λ s. frame_line number stream index config s frame ++ frame_lines number stream (index + 1) v.config v.stereo others) (sym stereo_is)

pub HasLines-more : (number stream : ℕ) (v : PacketValue) (index : ℕ) (left others : List (List ℕ)) (frame : List ℕ)
    (config : ℕ) (stereo : Bool) (old mid new : Option (List ℕ)) → config ≡ v.config → stereo ≡ v.stereo
    → left ≡ frame ∷ others → HasLines number stream v index left old mid
    → Appends mid new (frame_line number stream index config stereo frame)
    → HasLines number stream v (index + 1) others old new
HasLines-more number stream v index left others frame config stereo old mid new config_is stereo_is first lines more =
    let all = frame_lines number stream 0 v.config v.stereo v.frames in
    HasPut-more all (frame_line number stream index config stereo frame)
    (frame_lines number stream (index + 1) v.config v.stereo others) old mid new
    (subst (λ l. HasPut all l old mid)
    (first_line number stream v index left others frame config stereo config_is stereo_is first) lines)
    more

pub HasLines-front : (number stream : ℕ) (v : PacketValue) (index : ℕ) (left others : List (List ℕ)) (frame : List ℕ)
    (config : ℕ) (stereo : Bool) (old mid new : Option (List ℕ)) → config ≡ v.config → stereo ≡ v.stereo
    → left ≡ frame ∷ others → HasLines number stream v index left old mid
    → Front (frame_line number stream index config stereo frame) mid new
    → Front (frame_lines number stream 0 v.config v.stereo v.frames) old new
HasLines-front number stream v index left others frame config stereo old mid new config_is stereo_is first lines front =
    let all = frame_lines number stream 0 v.config v.stereo v.frames in
    HasPut-front all (frame_line number stream index config stereo frame)
    (frame_lines number stream (index + 1) v.config v.stereo others) old mid new
    (subst (λ l. HasPut all l old mid)
    (first_line number stream v index left others frame config stereo config_is stereo_is first) lines)
    front
