-- A small job over captures, on which tests run: it writes the packets, and refuses a capture that goes wrong or is cut.
use Rattle.std.specs.Prelude.{ℕ, List, []}
use Rattle.job_loop.specs.Shown.{Shown}
use Rattle.job_loop.specs.Meaning.{Meaning, Step, goes, stops}
use Rattle.job_loop.specs.declared.input_end.InputEnd.{InputEnd}
use Rattle.job_loop.specs.declared.input_end.InputEnd.TheVariants.{Closed, Cut, Past}
use Rattle.rec_store.specs.declared.stop.StoreFault.{StoreFault}
use Rattle.dump_records.specs.declared.item.Item.{Item}
use Rattle.dump_records.specs.declared.item.Found.{Found}
use Rattle.dump_records.specs.declared.item.Found.TheVariants.{Record, Bad}

abbrev pub packet_step : Found → List ℕ → Step (Unit {0}) StoreFault
packet_step (Record told) bytes = goes bytes tt
packet_step (Bad fault) bytes = stops [] fault

abbrev pub packet_end : InputEnd StoreFault → Step (Unit {0}) StoreFault
packet_end Closed = goes [] tt
packet_end (Cut fault) = stops [] fault
packet_end Past = goes [] tt

abbrev pub packets : Meaning (Shown Item) (Unit {0}) StoreFault StoreFault
packets = record {
  opening = [];
  start = tt;
  step = λ k r. packet_step r.item.found r.bytes;
  finish = λ k end. packet_end end;
}
