use Rattle.std.proofs.Common.{length, sym, subst, ◌<◌, ◌^◌}
use Rattle.pack_jobs.proofs.FormSizes.{found_fits}
use Rattle.pack_jobs.proofs.norm.NormMakeItemCut.make.Goals as goal

pub write_record-requires : goal.write_record-requires
write_record-requires g c =
    subst (λ l. length l < 2 ^ 32) (sym c.bytes.ensures)
    (found_fits c.args.item.now.item.found c.args.item.now.bytes c.requires.fits)
