-- The table of options.
use Rattle.std.specs.Prelude.{ℕ, Bool, true, List, [], ◌∷◌, Option, find}
use Rattle.std.specs.Prelude.{codes, option_map, nat_le}
use Rattle.std.specs.List.{list_all}
use Rattle.opus_words.specs.Jobs.{is_kind}
use Rattle.opus_words.specs.declared.kind.JobKind.{JobKind}
use Rattle.opus_words.specs.declared.kind.JobKind.TheVariants.{Norm, Check, Show, Merge, Split, Pad}
use Rattle.opus_words.specs.declared.kind.JobKind.TheVariants.{Apart, Join, Extract, Send, Recv}
use Rattle.opus_words.specs.declared.kind.JobKind.TheVariants.{Replay, Make, Trial}
use Rattle.opus_words.specs.declared.table.Lack.{Lack}
use Rattle.opus_words.specs.declared.table.Lack.TheVariants.{Needed, Open, FirstWord, Number}
use Rattle.opus_words.specs.declared.option.Opt.{Opt}
use Rattle.opus_words.specs.declared.option.Opt.TheVariants.{Form, Streams, Stream, Group, Frames}
use Rattle.opus_words.specs.declared.option.Opt.TheVariants.{Size, Pt, Seq, Stamp, Ssrc}
use Rattle.opus_words.specs.declared.option.Opt.TheVariants.{Seed, Count, Padding}
use Rattle.opus_words.specs.declared.table.Values.{Values}
use Rattle.opus_words.specs.declared.table.Values.TheVariants.{Forms, Numbers, Paddings}

-- a row: the option's name, its values, and the jobs that take it, each with what stands where the
-- option isn't given
pub record OptionRow : Type 0 where
  pub name : List ℕ
  pub values : Values
  pub jobs : List (JobKind × Lack)

abbrev pub row : List ℕ → Values → List (JobKind × Lack) → OptionRow
row name values jobs = record { name = name; values = values; jobs = jobs }

abbrev pub row_of : Opt → OptionRow
row_of Form = row (codes "form") Forms
    ((Norm, FirstWord) ∷ (Check, FirstWord) ∷ (Show, FirstWord) ∷ (Merge, FirstWord)
    ∷ (Split, FirstWord) ∷ (Pad, FirstWord) ∷ [])
row_of Streams = row (codes "streams") (Numbers 1 255)
    ((Norm, Number 1) ∷ (Check, Number 1) ∷ (Show, Number 1) ∷ (Apart, Needed) ∷ (Join, Needed)
    ∷ (Extract, Needed) ∷ [])
row_of Stream = row (codes "stream") (Numbers 0 254) ((Extract, Needed) ∷ [])
row_of Group = row (codes "group") (Numbers 1 48) ((Merge, Open) ∷ [])
row_of Frames = row (codes "frames") (Numbers 1 48) ((Split, Number 1) ∷ [])
row_of Size = row (codes "size") (Numbers 1 33554431) ((Pad, Needed) ∷ [])
row_of Pt = row (codes "pt") (Numbers 0 127)
    ((Send, Number 96) ∷ (Recv, Open) ∷ (Replay, Open) ∷ [])
row_of Seq = row (codes "seq") (Numbers 0 65535) ((Send, Number 0) ∷ [])
row_of Stamp = row (codes "stamp") (Numbers 0 4294967295) ((Send, Number 0) ∷ [])
row_of Ssrc = row (codes "ssrc") (Numbers 0 4294967295)
    ((Send, Number 0) ∷ (Recv, Open) ∷ (Replay, Open) ∷ [])
row_of Seed = row (codes "seed") (Numbers 0 4294967295) ((Make, Number 0) ∷ (Trial, Number 0) ∷ [])
row_of Count = row (codes "count") (Numbers 0 1000000) ((Make, Needed) ∷ (Trial, Needed) ∷ [])
row_of Padding = row (codes "padding") Paddings ((Norm, FirstWord) ∷ [])

-- the options in the order of the table
abbrev pub options : List Opt
options = Form ∷ Streams ∷ Stream ∷ Group ∷ Frames ∷ Size ∷ Pt ∷ Seq ∷ Stamp ∷ Ssrc ∷ Seed ∷ Count
    ∷ Padding ∷ []

abbrev pub option_name : Opt → List ℕ
option_name opt = (row_of opt).name

-- what stands where the option isn't given, if the job takes it
abbrev pub lack_of : Opt → JobKind → Option Lack
lack_of opt kind = option_map (λ p. p.1) (find (λ p. is_kind p.0 kind) (row_of opt).jobs)

-- the greatest number among the values
abbrev pub most_in : Values → ℕ
most_in Forms = 0
most_in (Numbers least most) = most
most_in Paddings = 0

abbrev pub most_of : Opt → ℕ
most_of opt = most_in (row_of opt).values

abbrev pub is_default : Values → Lack → Bool
is_default values (Number n) = nat_le n (most_in values)
is_default values _ = true

-- each default is at most the greatest number
abbrev pub have_defaults : Values → List (JobKind × Lack) → Bool
have_defaults values jobs = list_all (λ p. is_default values p.1) jobs
