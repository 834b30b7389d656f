-- What a `Packet` keeps, and what it stands for.
use Rattle.std.specs.Prelude.{◌≡◌, length, sum}
use Rattle.opus_packet.specs.declared.packet.Packet.TheInside.{Inside}
use Rattle.opus_packet.specs.Value.{PacketValue, IsPacketValue}
use Rattle.opus_packet.specs.Tail.{tail_value, IsTail}
use Rattle.opus_packet.specs.Read.{PacketRead}
use Rattle.opus_packet.specs.Cut.{cut}

-- the value that it stands for: its frames fill the body, one after another
abbrev pub value_inside : Inside → PacketValue
value_inside p = record {
  config = p.toc.config;
  stereo = p.toc.stereo;
  frames = cut p.body.now p.lens;
}

-- what contracts see of it
abbrev pub read_inside : Inside → PacketRead
read_inside p = record {
  value = value_inside p;
  shape = p.shape;
  size = p.size;
  tail = tail_value p.tail;
}

-- the frames are those of a value, and lie one after another, with nothing before, between or behind
pub record IsWhole (p : Inside) : Type 0 where
  pub value : IsPacketValue (value_inside p)
  pub fills : sum p.lens ≡ length p.body.now
  pub code : p.toc.code ≡ p.shape.code
  pub tail : IsTail (tail_value p.tail) p.shape.pad
