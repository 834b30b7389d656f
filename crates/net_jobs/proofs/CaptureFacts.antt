-- A small capture, computed from the definitions: what its records are, what arrives, and what is written.
use Rattle.std.proofs.Common.{◌≡◌, ℕ, pos, List, [], ◌∷◌, None, Some, refl}
use Rattle.job_loop.specs.Shown.{Shown}
use Rattle.job_loop.specs.Meaning.{going, outcome}
use Rattle.job_loop.specs.declared.input_end.InputEnd.TheVariants.{Closed}
use Rattle.opus_toc.specs.Configuration.{samples_of, row_of}
use Rattle.opus_packet.specs.Header.{header_bytes}
use Rattle.opus_packet.specs.HeaderRead.{header_read}
use Rattle.pack_records.specs.Lent.{lent_value}
use Rattle.rec_store.specs.declared.dump_item.DumpKind.{DumpKind}
use Rattle.rec_store.specs.declared.dump_item.DumpKind.TheVariants as kinds
use Rattle.dump_records.specs.declared.item.Item.{Item}
use Rattle.dump_records.specs.declared.item.Found.TheVariants.{Record}
use Rattle.rtp_packet.specs.RtpFault.{rtp_fault}
use Rattle.rtp_ends.specs.Numbers.{place_after}
use Rattle.rtp_ends.specs.Report.{arrival_report}
use Rattle.rtp_ends.specs.declared.event.Event.TheVariants.{Packet, Gap}
use Rattle.net_jobs.specs.declared.stream.Asked.{Asked}
use Rattle.net_jobs.specs.Arrive.{record_sort}
use Rattle.net_jobs.specs.Receive.{recv}
use Rattle.net_jobs.specs.Received.{received}

any : Asked
any = record { payload_type = None; ssrc = None }

shown : DumpKind → List ℕ → Shown Item
shown kind bytes = record { item = record { place = 0; found = Record (record { offset = 0; kind = kind }) }; bytes = bytes }

-- packets 1000, 1002, 1001, a cut one, 1004 and again 1004, with RTCP behind the first one
capture : List (Shown Item)
capture =
    shown kinds.Rtp (0x80 ∷ 0x6F ∷ 0x03 ∷ 0xE8 ∷ 0 ∷ 0 ∷ 0 ∷ 0 ∷ 0x12 ∷ 0x34 ∷ 0xAB ∷ 0xCD ∷ 0xFC ∷ 1 ∷ 2 ∷ 3 ∷ [])
    ∷ shown kinds.Rtcp (0x80 ∷ 0xC9 ∷ 0 ∷ 1 ∷ 0x12 ∷ 0x34 ∷ 0xAB ∷ 0xCD ∷ [])
    ∷ shown kinds.Rtp (0x91 ∷ 0x6F ∷ 0x03 ∷ 0xEA ∷ 0 ∷ 0 ∷ 7 ∷ 0x80 ∷ 0x12 ∷ 0x34 ∷ 0xAB ∷ 0xCD ∷ 0 ∷ 0 ∷ 0 ∷ 7
    ∷ 0xBE ∷ 0xDE ∷ 0 ∷ 1 ∷ 0x10 ∷ 0xFF ∷ 0 ∷ 0 ∷ 0xFC ∷ 4 ∷ 5 ∷ [])
    ∷ shown kinds.Rtp (0x80 ∷ 0x6F ∷ 0x03 ∷ 0xE9 ∷ 0 ∷ 0 ∷ 3 ∷ 0xC0 ∷ 0x12 ∷ 0x34 ∷ 0xAB ∷ 0xCD ∷ 0xFC ∷ 6 ∷ [])
    ∷ shown kinds.Cut (0x80 ∷ 0x6F ∷ 0x03 ∷ 0xEB ∷ 0 ∷ 0 ∷ 0x0B ∷ 0x40 ∷ 0x12 ∷ 0x34 ∷ 0xAB ∷ 0xCD ∷ [])
    ∷ shown kinds.Rtp (0xA0 ∷ 0x6F ∷ 0x03 ∷ 0xEC ∷ 0 ∷ 0 ∷ 0x0F ∷ 0 ∷ 0x12 ∷ 0x34 ∷ 0xAB ∷ 0xCD ∷ 0xFC ∷ 8 ∷ 0 ∷ 2 ∷ [])
    ∷ shown kinds.Rtp (0x80 ∷ 0x6F ∷ 0x03 ∷ 0xEC ∷ 0 ∷ 0 ∷ 0x0F ∷ 0 ∷ 0x12 ∷ 0x34 ∷ 0xAB ∷ 0xCD ∷ 0xFC ∷ 9 ∷ [])
    ∷ []

counts_of_all : (received any capture).counts
    ≡ record { records = 7; rtcp = 1; cut = 1; bad = 0; other = 0; repeats = 1; packets = 4 }
unfolding any shown capture record_sort rtp_fault lent_value header_read header_bytes samples_of row_of place_after
counts_of_all = refl

stream_of_all : (received any capture).chosen ≡ Some (record { payload_type = 111; ssrc = 0x1234ABCD })
unfolding any shown capture record_sort rtp_fault lent_value header_read header_bytes samples_of row_of place_after
stream_of_all = refl

report_of_all : arrival_report (received any capture).heard
    ≡ Packet (pos 1000) 0 (0xFC ∷ 1 ∷ 2 ∷ 3 ∷ []) ∷ Packet (pos 1001) 960 (0xFC ∷ 6 ∷ [])
    ∷ Packet (pos 1002) 1920 (0xFC ∷ 4 ∷ 5 ∷ []) ∷ Gap (pos 1003) 1 ∷ Packet (pos 1004) 3840 (0xFC ∷ 8 ∷ []) ∷ []
unfolding any shown capture record_sort rtp_fault lent_value header_read header_bytes samples_of row_of place_after
report_of_all = refl

store_of_all : outcome (recv any) capture Closed
    ≡ going (0 ∷ 0 ∷ 0 ∷ 4 ∷ 0 ∷ 0 ∷ 0 ∷ 0 ∷ 0xFC ∷ 1 ∷ 2 ∷ 3
    ∷ 0 ∷ 0 ∷ 0 ∷ 2 ∷ 0 ∷ 0 ∷ 0 ∷ 0 ∷ 0xFC ∷ 6
    ∷ 0 ∷ 0 ∷ 0 ∷ 3 ∷ 0 ∷ 0 ∷ 0 ∷ 0 ∷ 0xFC ∷ 4 ∷ 5
    ∷ 0 ∷ 0 ∷ 0 ∷ 0 ∷ 0 ∷ 0 ∷ 0 ∷ 0
    ∷ 0 ∷ 0 ∷ 0 ∷ 2 ∷ 0 ∷ 0 ∷ 0 ∷ 0 ∷ 0xFC ∷ 8 ∷ []) tt
unfolding any shown capture record_sort rtp_fault lent_value header_read header_bytes samples_of row_of place_after
store_of_all = refl
