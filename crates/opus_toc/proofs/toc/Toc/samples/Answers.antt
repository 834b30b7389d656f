use Rattle.std.proofs.Common.{◌≡◌, ℕ, sym, ap, ◌∙◌}
use Rattle.opus_toc.specs.Configuration.{samples_of, mode_of}
use Rattle.opus_toc.specs.declared.toc.Mode.{Mode}
use Rattle.opus_toc.specs.declared.toc.Mode.TheVariants.{Silk, Hybrid, Celt}
use Rattle.opus_toc.proofs.Table.{samples_in, samples_of-in_mode}
use Rattle.opus_toc.proofs.toc.Toc.samples.Goals as goal

-- the samples by the mode that was found
in_mode : (mode : Mode) (config index : ℕ) → samples_of config ≡ samples_in (mode_of config) config
    → mode_of config ≡ mode → index ≡ config → samples_in mode index ≡ samples_of config
in_mode mode config index samples found same =
    sym (samples ∙ ap (λ m. samples_in m config) found ∙ ap (samples_in mode) (sym same))

pub returns-in-Silk : goal.returns-in-Silk
returns-in-Silk c =
    in_mode Silk c.args.self.config c.from-index.result
    (samples_of-in_mode c.args.self.config c.args.self.known) (cc) c.from-index.ensures

pub returns-in-Hybrid : goal.returns-in-Hybrid
returns-in-Hybrid c =
    in_mode Hybrid c.args.self.config c.from-index.result
    (samples_of-in_mode c.args.self.config c.args.self.known) (cc) c.from-index.ensures

pub returns-in-Celt : goal.returns-in-Celt
returns-in-Celt c =
    in_mode Celt c.args.self.config c.from-index.result
    (samples_of-in_mode c.args.self.config c.args.self.known) (cc) c.from-index.ensures
