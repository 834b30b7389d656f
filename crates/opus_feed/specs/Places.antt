-- What a feed keeps, by where it stands.
use Rattle.std.specs.Prelude.{◌≡◌, ℕ, zero, suc, ◌≤◌, Bool, length, min, vec_len}
use Rattle.std.proofs.Props.{props}
use Rattle.opus_packet.specs.Value.{max_frame}
use Rattle.opus_feed.specs.Stage.{IsOpen}
use Rattle.opus_feed.specs.Heads.{SuitsCount, IsSound, IsSized, IsLast, spelling, header_in}
use Rattle.opus_feed.specs.Bodies.{memory_of, bytes_behind, kept_behind, IsGoing}
use Rattle.opus_feed.specs.declared.framing.Framing.{Framing}
use Rattle.opus_feed.specs.declared.framing.Framing.TheVariants.{Whole, SelfDelimited}
use Rattle.opus_feed.specs.declared.padding.Padding.{Padding}
use Rattle.opus_feed.specs.declared.stage.Stage.{Stage}
use Rattle.opus_feed.specs.declared.stage.Stage.TheVariants.{Toc, Count, PadLength, Length, LengthEnd, Last, LastEnd, Ready, BadCount, BadPadding}
use Rattle.opus_feed.specs.declared.head.Head.{Head}
use Rattle.opus_feed.specs.declared.body.Body.{Body}
use Rattle.opus_feed.specs.declared.place.Place.{Place}
use Rattle.opus_feed.specs.declared.place.Place.TheVariants.{Opening, Filling, Full, Failed}

-- in the header
pub record IsOpening (framing : Framing) (padding : Padding) (stage : Stage) (h : Head) (b : Body) : Type 0 where
  pub open_is : IsOpen stage
  pub sound : IsSound framing stage h
  pub front_is : b.front ≡ length (spelling framing stage h)
  pub small : b.front ≤ 65891
  pub none : b.came ≡ 0
  pub none_kept : b.kept ≡ 0
  pub memory : vec_len b.bytes ≡ memory_of padding

-- behind the header
pub record IsFilling (framing : Framing) (padding : Padding) (h : Head) (b : Body) : Type 0 where
  pub sized : IsSized h
  pub last : IsLast framing h.last
  pub front_is : b.front ≡ length (spelling framing Ready h)
  pub small : b.front ≤ 65891
  pub limit_is : b.limit ≡ bytes_behind (header_in h) h.last
  pub room_is : b.room ≡ kept_behind padding (header_in h) h.last
  pub limit_small : b.limit ≤ 16838415
  pub fits : b.room ≤ vec_len b.bytes
  pub came : b.came ≤ b.limit
  pub kept_is : b.kept ≡ min b.room b.came
  pub memory : vec_len b.bytes ≡ memory_of padding

-- at the end of a packet
pub record IsFull (framing : Framing) (padding : Padding) (h : Head) (b : Body) : Type 0 where
  pub sized : IsSized h
  pub last : h.last ≤ max_frame
  pub front_is : b.front ≡ length (spelling framing Ready h)
  pub small : b.front ≤ 65891
  pub came_is : b.came ≡ bytes_behind (header_in h) h.last
  pub came_small : b.came ≤ 16838415
  pub kept : kept_behind padding (header_in h) h.last ≤ b.kept
  pub fits : b.kept ≤ vec_len b.bytes
  pub memory : vec_len b.bytes ≡ memory_of padding

-- no more is kept than there is memory for
pub record HasMemory (padding : Padding) (b : Body) : Type 0 where
  pub small : b.front ≤ 65891
  pub came_small : b.came ≤ 16838415
  pub fits : b.kept ≤ vec_len b.bytes
  pub memory : vec_len b.bytes ≡ memory_of padding

abbrev pub IsSteady : Framing → Padding → Place → Head → Body → Type 0
IsSteady framing padding (Opening stage) h b = IsOpening framing padding stage h b
IsSteady framing padding Filling h b = IsFilling framing padding h b × IsGoing framing b
IsSteady framing padding Full h b = IsFull framing padding h b
IsSteady framing padding (Failed rule) h b = HasMemory padding b

-- each of these has one proof at most

IsOpen-prop : (stage : Stage) → IsProp (IsOpen stage)
IsOpen-prop Toc = Prim.hlevel props
IsOpen-prop Count = Prim.hlevel props
IsOpen-prop PadLength = Prim.hlevel props
IsOpen-prop Length = Prim.hlevel props
IsOpen-prop LengthEnd = Prim.hlevel props
IsOpen-prop Last = Prim.hlevel props
IsOpen-prop LastEnd = Prim.hlevel props
IsOpen-prop Ready = Prim.hlevel props
IsOpen-prop BadCount = Prim.hlevel props
IsOpen-prop BadPadding = Prim.hlevel props

SuitsCount-prop : (code : ℕ) (vbr : Bool) (pad frames : ℕ) → IsProp (SuitsCount code vbr pad frames)
SuitsCount-prop zero vbr pad frames = Prim.hlevel props
SuitsCount-prop (suc zero) vbr pad frames = Prim.hlevel props
SuitsCount-prop (suc (suc zero)) vbr pad frames = Prim.hlevel props
SuitsCount-prop (suc (suc (suc zero))) vbr pad frames = Prim.hlevel props
SuitsCount-prop (suc (suc (suc (suc code)))) vbr pad frames = Prim.hlevel props

IsLast-prop : (framing : Framing) (last : ℕ) → IsProp (IsLast framing last)
IsLast-prop Whole last = Prim.hlevel props
IsLast-prop SelfDelimited last = Prim.hlevel props

IsGoing-prop : (framing : Framing) (b : Body) → IsProp (IsGoing framing b)
IsGoing-prop Whole b = Prim.hlevel props
IsGoing-prop SelfDelimited b = Prim.hlevel props

IsSound-prop : (framing : Framing) (stage : Stage) (h : Head) → IsProp (IsSound framing stage h)
IsSound-prop framing Toc h = Prim.hlevel props
IsSound-prop framing Count h = Prim.hlevel props
IsSound-prop framing PadLength h = Prim.hlevel props
IsSound-prop framing Length h = Prim.hlevel (props, SuitsCount-prop)
IsSound-prop framing LengthEnd h = Prim.hlevel (props, SuitsCount-prop)
IsSound-prop framing Last h = Prim.hlevel (props, SuitsCount-prop)
IsSound-prop framing LastEnd h = Prim.hlevel (props, SuitsCount-prop)
IsSound-prop framing Ready h = Prim.hlevel (props, SuitsCount-prop, IsLast-prop)
IsSound-prop framing BadCount h = Prim.hlevel props
IsSound-prop framing BadPadding h = Prim.hlevel props

pub IsSteady-prop : (framing : Framing) (padding : Padding) (place : Place) (h : Head) (b : Body)
    → IsProp (IsSteady framing padding place h b)
IsSteady-prop framing padding (Opening stage) h b = Prim.hlevel (props, IsOpen-prop, IsSound-prop)
IsSteady-prop framing padding Filling h b = Prim.hlevel (props, SuitsCount-prop, IsLast-prop, IsGoing-prop)
IsSteady-prop framing padding Full h b = Prim.hlevel (props, SuitsCount-prop)
IsSteady-prop framing padding (Failed rule) h b = Prim.hlevel props
