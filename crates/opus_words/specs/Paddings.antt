-- What becomes of padding bytes (RFC 6716, 3.2.5), as `--padding` names it.
use Rattle.std.specs.Prelude.{ℕ, List, [], ◌∷◌, Option, codes, find}
use Rattle.std.specs.Str.{bytes_eq}
use Rattle.opus_feed.specs.declared.padding.Padding.{Padding}
use Rattle.opus_feed.specs.declared.padding.Padding.TheVariants.{Drop, Keep}

abbrev pub padding_name : Padding → List ℕ
padding_name Drop = codes "drop"
padding_name Keep = codes "keep"

-- the default
abbrev pub first_padding : Padding
first_padding = Drop

-- both, the default first
abbrev pub paddings : List Padding
paddings = Drop ∷ Keep ∷ []

-- the one of this name
abbrev pub padding_named : List ℕ → Option Padding
padding_named name = find (λ padding. bytes_eq (padding_name padding) name) paddings
