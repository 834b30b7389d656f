-- What the parts of the code stand for, which no public clause cites.
use Rattle.opus_make.specs.declared.form.Form.{Form}
use Rattle.opus_make.specs.declared.plan.Plan.{Plan}
use Rattle.opus_make.specs.Plan.{FormValue, PlanValue}

abbrev pub form_value : Form → FormValue
form_value form = record { code = form.code; vbr = form.vbr; count = form.count; pad = form.pad }

abbrev pub plan_value : Plan → PlanValue
plan_value plan = record {
  config = plan.config;
  stereo = plan.stereo;
  form = form_value plan.form;
  lengths = plan.lengths.items;
}
