-- An input as lines, each with a newline behind it; the last one may lack it.
use Rattle.std.specs.Prelude.{◌≡◌, ℕ, suc, ◌+◌, List, [], ◌∷◌, ◌++◌, length, Option, None, IsTrue}
use Rattle.std.specs.List.{flat_map, list_all}
use Rattle.job_loop.specs.Shown.{Shown}
use Rattle.opus_sdp.specs.Text.{is_line}
use Rattle.text_jobs.specs.declared.line.Line.{Line}
use Rattle.text_jobs.specs.declared.line.NoCut.{NoCut}

-- a line with its newline
abbrev pub ended : List ℕ → List ℕ
ended text = text ++ 10 ∷ []

-- these lines, each with its newline
abbrev pub joined : List (List ℕ) → List ℕ
joined texts = flat_map ended texts

-- so many bytes of the input stand in front of the line, and it is decided where so many are there
abbrev pub line_at : ℕ → ℕ → List ℕ → Shown Line
line_at start place text = record { item = record { start = start; place = place }; bytes = text }

-- where a line was decided
abbrev pub place_of : Shown Line → ℕ
place_of r = r.item.place

-- whole lines, of which the first begins there
abbrev pub lines_at : ℕ → List (List ℕ) → List (Shown Line)
lines_at start [] = []
lines_at start (text ∷ texts) =
    line_at start (start + suc (length text)) text ∷ lines_at (start + suc (length text)) texts

-- bytes are whole lines, and a rest without a newline
pub record LineFront (h : List ℕ) (texts : List (List ℕ)) (rest : List ℕ) : Type 0 where
  pub parts : h ≡ joined texts ++ rest
  pub lines : IsTrue (list_all is_line texts)
  pub last : IsTrue (is_line rest)

-- bytes settle the lines whose newlines they have
abbrev pub LineSettles : List ℕ → List (Shown Line) → Type 0
LineSettles h rs = (texts : List (List ℕ)) × (rest : List ℕ) × LineFront h texts rest × (rs ≡ lines_at 0 texts)

-- the last line of an input, which lacks its newline: there is one where bytes are left
abbrev pub last_line : ℕ → List ℕ → List (Shown Line)
last_line start [] = []
last_line start (b ∷ text) = line_at start (start + suc (length text)) (b ∷ text) ∷ []

-- a whole input has its lines, and is never cut
abbrev pub LineEnds : List ℕ → List (Shown Line) → Option NoCut → Type 0
LineEnds h rs cut = (texts : List (List ℕ)) × (rest : List ℕ) × LineFront h texts rest
    × (rs ≡ lines_at 0 texts ++ last_line (length (joined texts)) rest) × (cut ≡ None)
