-- What the job show writes, stream by stream.
use Rattle.std.proofs.Common.{◌≡◌, ℕ, ◌+◌, ◌<◌, List, [], ◌∷◌, ◌++◌, length, drop, get_or, refl, ap, ◌∙◌}
use Rattle.std.proofs.lemmas.List.{drop_more}
use Rattle.opus_packet.specs.Value.{PacketValue}
use Rattle.pack_jobs.specs.PacketLines.{packet_lines}
use Rattle.stream_records.specs.declared.item.Spelling.{Spelling}
use Rattle.stream_jobs.specs.Show.{stream_lines}

-- the lines of the next stream
pub lines-next : (number at : ℕ) (ss : List Spelling) (d : Spelling) (vs rest : List PacketValue) (v : PacketValue)
    → at < length ss → vs ≡ v ∷ rest
    → stream_lines number at (drop at ss) vs
    ≡ packet_lines number at (get_or ss at d).shape (get_or ss at d).size v
    ++ stream_lines number (at + 1) (drop (at + 1) ss) rest
lines-next number at ss d vs rest v within is =
    ap (λ l. stream_lines number at l vs) (drop_more ss at d within)
    ∙ ap (stream_lines number at (get_or ss at d ∷ drop (at + 1) ss)) is

-- no packet is left
pub lines-none : (number at : ℕ) (ss : List Spelling) (vs : List PacketValue) → vs ≡ []
    → stream_lines number at ss vs ≡ []
lines-none number at [] vs is = refl
lines-none number at (s ∷ ss) vs is = ap (stream_lines number at (s ∷ ss)) is
