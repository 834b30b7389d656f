-- Examples of captures, computed by the definitions.
use Rattle.std.proofs.Common.{◌≡◌, inl, ℕ, List, [], ◌∷◌, ◌++◌, refl, arith}
use Rattle.rec_store.specs.DumpLine.{IsDumpLine, IsBadLine}
use Rattle.rec_store.specs.DumpItem.{kind_of, packet_size}
use Rattle.rec_store.specs.DumpStore.{IsDumpHead, IsDumpOpening, IsBadLength}
use Rattle.rec_store.specs.declared.dump_item.DumpKind.TheVariants.{Rtp, Cut, Rtcp}
use Rattle.rec_store.specs.declared.dump_opening.DumpHead.{DumpHead}

-- `#!rtpplay1.0 10.0.0.5/5004` and a newline
line : List ℕ
line = 0x23 ∷ 0x21 ∷ 0x72 ∷ 0x74 ∷ 0x70 ∷ 0x70 ∷ 0x6C ∷ 0x61 ∷ 0x79 ∷ 0x31 ∷ 0x2E ∷ 0x30 ∷ 0x20
    ∷ 0x31 ∷ 0x30 ∷ 0x2E ∷ 0x30 ∷ 0x2E ∷ 0x30 ∷ 0x2E ∷ 0x35 ∷ 0x2F ∷ 0x35 ∷ 0x30 ∷ 0x30 ∷ 0x34 ∷ 0x0A ∷ []

line_is_a_line : IsDumpLine line
unfolding line
line_is_a_line = record {
  text = 0x31 ∷ 0x30 ∷ 0x2E ∷ 0x30 ∷ 0x2E ∷ 0x30 ∷ 0x2E ∷ 0x35 ∷ 0x2F ∷ 0x35 ∷ 0x30 ∷ 0x30 ∷ 0x34 ∷ [];
  one_line = (
    omega arith,
    (
      omega arith,
      (
        omega arith,
        (
          omega arith,
          (
            omega arith,
            (
              omega arith,
              (
                omega arith,
                (omega arith, (omega arith, (omega arith, (omega arith, (omega arith, (omega arith, tt)))))),
              ),
            ),
          ),
        ),
      ),
    ),
  );
  spelled = refl;
  fits = omega arith;
}

-- address 10.0.0.5 and port 5004
numbers : List ℕ
numbers = 0 ∷ 0 ∷ 0 ∷ 0 ∷ 0 ∷ 0 ∷ 0 ∷ 0 ∷ 0x0A ∷ 0 ∷ 0 ∷ 5 ∷ 0x13 ∷ 0x8C ∷ 0 ∷ 0 ∷ []

head : DumpHead
head = record { seconds = 0; micros = 0; address = 0x0A000005; port = 5004 }

numbers_are_a_head : IsDumpHead head numbers
unfolding numbers head
numbers_are_a_head = record {
  seconds = omega arith;
  micros = omega arith;
  address = omega arith;
  port = omega arith;
  padding = 0 ∷ 0 ∷ [];
  two = refl;
  spelled = refl;
}

opening_is_an_opening : IsDumpOpening head (line ++ numbers)
opening_is_an_opening = record {
  line = line;
  numbers = numbers;
  is_line = line_is_a_line;
  is_head = numbers_are_a_head;
  bytes_are = refl;
}

-- `#!Atp`: byte 2 is none of the mark
third_byte : IsBadLine (0x23 ∷ 0x21 ∷ 0x41 ∷ 0x74 ∷ 0x70 ∷ []) 2
third_byte = inl record {
  same = 0x23 ∷ 0x21 ∷ [];
  wanted = 0x72;
  others = 0x74 ∷ 0x70 ∷ 0x70 ∷ 0x6C ∷ 0x61 ∷ 0x79 ∷ 0x31 ∷ 0x2E ∷ 0x30 ∷ 0x20 ∷ [];
  found = 0x41;
  more = 0x74 ∷ 0x70 ∷ [];
  mark_is = refl;
  bytes_are = refl;
  differs = omega arith;
  place_is = refl;
}

-- a length of 7, of the first record
seven : IsBadLength ((line ++ numbers) ++ 0 ∷ 7 ∷ []) 43
unfolding line numbers head
seven = record {
  head = head;
  records = [];
  rest = 0 ∷ 7 ∷ [];
  front = record { opening = line ++ numbers; is_opening = opening_is_an_opening; are = tt; parts = refl };
  short = record { len = 7; short = omega arith; more = []; bytes_are = refl };
  place_is = refl;
}

-- of a packet of 16 bytes 12 were kept
cut : kind_of 16 12 ≡ Cut
cut = refl

-- all bytes of RTCP are the packet's, which may be none
rtcp : kind_of 0 8 ≡ Rtcp
rtcp = refl

rtcp_size : packet_size 0 8 ≡ 8
rtcp_size = refl

-- bytes behind the packet are passed over
rtp : kind_of 4 6 ≡ Rtp
rtp = refl

rtp_size : packet_size 4 6 ≡ 4
rtp_size = refl
