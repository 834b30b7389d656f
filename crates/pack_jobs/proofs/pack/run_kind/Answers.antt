use Rattle.std.proofs.Common.{refl, sym, ap}
use Rattle.pack_jobs.specs.declared.norm.Norm.{Norm}
use Rattle.pack_jobs.specs.Norm.{norm}
use Rattle.pack_jobs.specs.Show.{show}
use Rattle.pack_jobs.specs.Split.{split}
use Rattle.pack_jobs.specs.Pad.{pad}
use Rattle.pack_jobs.specs.PackEnds.{place_of}
use Rattle.pack_jobs.proofs.pack.run_kind.Goals as goal

pub returns-in-Norm : goal.returns-in-Norm
returns-in-Norm g c = λ layout is settled.
    rw (c.in-Norm.is, sym c.form_in-form.ensures, sym c.padding_in.ensures)
    (c.run_over.ensures (norm c.form_in-form.result c.padding_in.result)
    (ap (λ (n : Norm). norm n.form n.padding) c.new-norm.ensures.make) layout is settled place_of c.requires.place)

pub returns-in-Show : goal.returns-in-Show
returns-in-Show g c = λ layout is settled.
    rw c.in-Show.is (c.run_over-in-Show.ensures show refl layout is settled place_of c.requires.place)

pub returns-in-Split : goal.returns-in-Split
returns-in-Split g c = λ layout is settled.
    rw (c.in-Split.is, sym c.form_in-form.ensures, sym c.most_in.ensures.is)
    (c.run_over-in-Split.ensures (split c.form_in-form.result c.most_in.result) c.job-split.ensures.job layout is settled
    place_of c.requires.place)

pub returns-in-Pad : goal.returns-in-Pad
returns-in-Pad g c = λ layout is settled.
    rw (c.in-Pad.is, sym c.form_in-form.ensures, sym c.size_in.ensures)
    (c.run_over-in-Pad.ensures (pad c.form_in-form.result c.size_in.result) c.job-pad.ensures.job layout is settled
    place_of c.requires.place)
