-- Words, numbers and jobs, computed on examples.
use Rattle.std.proofs.Common.{◌≡◌, ℕ, List, [], ◌∷◌, codes, refl, Some, None}
use Rattle.std.specs.Prelude.{Ok, Err}
use Rattle.clap.specs.Words.{Row}
use Rattle.clap.specs.declared.builder.value_parser.Reading.TheVariants.{AsWritten}
use Rattle.opus_words.specs.Jobs.{kind_named, form_within}
use Rattle.opus_words.specs.Options.{lack_of}
use Rattle.opus_words.specs.Words.{judged, job_with}
use Rattle.opus_words.specs.declared.fault.UsageKind.TheVariants as usage
use Rattle.opus_words.specs.declared.form.Form.TheVariants.{Raw}
use Rattle.opus_words.specs.declared.kind.JobKind.TheVariants.{Norm, Check, Pad, Extract, Send}
use Rattle.opus_words.specs.declared.option.Opt.TheVariants as opt
use Rattle.opus_words.specs.declared.table.Lack.TheVariants.{Number}

-- ---- names

a_job_is_named_exactly : kind_named (codes "norm") ≡ Some Norm
a_job_is_named_exactly = refl

a_longer_name_is_none : kind_named (codes "norms") ≡ None
a_longer_name_is_none = refl

self_is_no_form_of_pad : form_within Pad (codes "self") ≡ None
self_is_no_form_of_pad = refl

the_default_payload_type : lack_of opt.Pt Send ≡ Some (Number 96)
the_default_payload_type = refl

-- ---- jobs, judged from what the command line gives: JOB and the options' texts

abbrev given : List ℕ → List ℕ → Row
given name text = record {
  id = name;
  values = text ∷ [];
  count = None;
  source = None;
  reading = AsWritten;
}

norm_is_done_in_form_raw : judged Norm [] ≡ Ok (job_with Norm [])
norm_is_done_in_form_raw = refl

its_form_is_the_first_one : (job_with Norm []).form ≡ Some Raw
its_form_is_the_first_one = refl

an_option_of_another_job : judged Norm (given (codes "size") (codes "9") ∷ given (codes "form") (codes "tape") ∷ [])
    ≡ Err (usage.Option opt.Size)
an_option_of_another_job = refl

a_value_before_one_that_is_missing : judged Extract (given (codes "streams") (codes "0") ∷ []) ≡ Err (usage.Value opt.Streams)
a_value_before_one_that_is_missing = refl

the_first_one_missing : judged Extract [] ≡ Err (usage.Missing opt.Streams)
the_first_one_missing = refl

the_stream_lies_below_the_streams : judged Extract (given (codes "streams") (codes "2") ∷ given (codes "stream") (codes "2") ∷ [])
    ≡ Err (usage.Value opt.Stream)
the_stream_lies_below_the_streams = refl

self_has_one_stream : judged Check (given (codes "form") (codes "self") ∷ given (codes "streams") (codes "2") ∷ [])
    ≡ Err (usage.Value opt.Streams)
self_has_one_stream = refl
