-- What a piece makes of a feed, by where it stands.
use Rattle.std.specs.Prelude.{◌≡◌, ℕ, List, ◌++◌}
use Rattle.opus_packet.specs.PacketPrefix.{AreBytes}
use Rattle.opus_feed.specs.Stands.{StandsAt}
use Rattle.opus_feed.specs.declared.framing.Framing.{Framing}
use Rattle.opus_feed.specs.declared.head.Head.{Head}
use Rattle.opus_feed.specs.declared.body.Body.{Body}
use Rattle.opus_feed.specs.declared.moved.Moved.{Moved}
use Rattle.opus_feed.specs.declared.place.Place.{Place}
use Rattle.opus_feed.specs.declared.place.Place.TheVariants.{Opening, Filling, Full, Failed}

-- whatever bytes it stood for, behind the piece it stands for these with the piece
abbrev pub StandsOn : Framing → Place → Head → Body → List ℕ → Moved → Head → Body → Type 0
StandsOn framing place h b piece moved h2 b2 =
    (bytes : List ℕ) → AreBytes (bytes ++ piece) → StandsAt framing place h b bytes
    → StandsAt framing moved.place h2 b2 (bytes ++ piece)

-- the same place, head and body, and no byte of the piece
pub record IsStill (place : Place) (h : Head) (b : Body) (moved : Moved) (h2 : Head) (b2 : Body) : Type 0 where
  pub place_is : moved.place ≡ place
  pub used_is : moved.used ≡ 0
  pub head_is : h2 ≡ h
  pub body_is : b2 ≡ b

-- where nothing comes any more, nothing changes
abbrev pub Stays : Place → Head → Body → Moved → Head → Body → Type 0
Stays (Opening stage) h b moved h2 b2 = Unit {0}
Stays Filling h b moved h2 b2 = Unit {0}
Stays Full h b moved h2 b2 = IsStill Full h b moved h2 b2
Stays (Failed rule) h b moved h2 b2 = IsStill (Failed rule) h b moved h2 b2
