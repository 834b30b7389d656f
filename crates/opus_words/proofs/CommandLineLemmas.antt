-- The command as it is built, an argument at a time.
use Rattle.std.proofs.Common.{◌≡◌, ◌≢◌, ◌<◌, ◌+◌, ◌∙◌, ◌⊎◌, [], ◌∷◌, Err, ℕ, List, ap, get_or, inl, inr}
use Rattle.std.proofs.Common.{length, refl, subst, sym, take, true}
use Rattle.std.proofs.lemmas.List.Sums.{fold_more}
use Rattle.clap.proofs.OnLiterals.{clap_on_literals}
use Rattle.clap.specs.Faults.{fault_of, is_simple_and_free}
use Rattle.clap.specs.Kinds.{IsAmong, Kinds}
use Rattle.clap.specs.Words.{App, Row, Text, is_simple, matches_of, with_rule}
use Rattle.clap.specs.declared.error.kind.ErrorKind.{ErrorKind}
use Rattle.clap.specs.declared.error.kind.ErrorKind.TheVariants.{OutOfMemory}
use Rattle.opus_words.specs.CommandLine.{command_app, option_rule, with_options}
use Rattle.opus_words.specs.Options.{option_name}
use Rattle.opus_words.specs.Words.{IsUsage, job_of_line, job_of_rows, job_unless}
use Rattle.opus_words.specs.declared.fault.UsageKind.TheVariants as usage
use Rattle.opus_words.specs.declared.fault.WordsFault.{WordsFault}
use Rattle.opus_words.specs.declared.fault.WordsFault.TheVariants.{NoMemory, Usage}
use Rattle.opus_words.specs.declared.option.Opt.{Opt}
use Rattle.opus_words.specs.declared.option.Opt.TheVariants.{Form}

abbrev add : App → Opt → App
add app opt = with_rule app (option_rule (option_name opt))

-- one option more
pub with_options-more : (app old new : App) (opts : List Opt) (i : ℕ) (name : List ℕ)
    → i < length opts → old ≡ with_options app (take i opts)
    → name ≡ option_name (get_or opts i Form) → new ≡ with_rule old (option_rule name)
    → new ≡ with_options app (take (i + 1) opts)
with_options-more app old new opts i name h so_far named added =
    added ∙ ap (λ (n : List ℕ). with_rule old (option_rule n)) named
    ∙ ap (λ (a : App). add a (get_or opts i Form)) so_far ∙ sym (fold_more add app opts i Form h)

-- the options added to the command with JOB
pub with_options-same : (app start new : App) (opts all : List Opt)
    → app ≡ start → opts ≡ all → new ≡ with_options app opts → new ≡ with_options start all
with_options-same app start new opts all a o e =
    e ∙ ap (λ (x : App). with_options x opts) a ∙ ap (λ (x : List Opt). with_options start x) o

-- ---- what `clap` promises of this command

is_known : is_simple_and_free command_app ≡ true
unfolding clap_on_literals command_app
is_known = refl

is_simple_known : is_simple command_app ≡ true
unfolding clap_on_literals command_app
is_simple_known = refl

-- where the command takes the line
pub job_of_line-taken : (app : App) (line : List Text) (rows : List Row) → app ≡ command_app
    → (is_simple_and_free app ≡ true → fault_of app line ≡ [])
    → (is_simple app ≡ true → rows ≡ matches_of app line)
    → job_of_line line ≡ job_of_rows rows
unfolding job_of_line
job_of_line-taken app line rows e faults matches =
    let none : fault_of command_app line ≡ [] =
    sym (ap (λ (a : App). fault_of a line) e) ∙ faults (ap is_simple_and_free e ∙ is_known) in
    let found : rows ≡ matches_of command_app line =
    matches (ap is_simple e ∙ is_simple_known) ∙ ap (λ (a : App). matches_of a line) e in
    ap (λ (ks : Kinds). job_unless ks (matches_of command_app line)) none
    ∙ ap job_of_rows (sym found)

-- a fault is a reason to refuse
refused : (faults : Kinds) (rows : List Row) (kind : ErrorKind) → IsAmong kind faults
    → job_unless faults rows ≡ Err usage.Words
refused [] rows kind h = absurd h
refused (k ∷ ks) rows kind h = refl

-- where it refuses the line
pub job_of_line-refused : (app : App) (line : List Text) (kind : ErrorKind) (fault : WordsFault)
    → app ≡ command_app
    → (is_simple_and_free app ≡ true → (kind ≡ OutOfMemory) ⊎ IsAmong kind (fault_of app line))
    → (fault ≡ NoMemory) ⊎ ((fault ≡ Usage usage.Words) × (kind ≢ OutOfMemory))
    → IsUsage fault (job_of_line line)
unfolding job_of_line
job_of_line-refused app line kind fault e kinds (inl n) = rw n tt
job_of_line-refused app line kind fault e kinds (inr u) =
    rw u.0 (among (kinds (ap is_simple_and_free e ∙ is_known)))
  where
    among : (kind ≡ OutOfMemory) ⊎ IsAmong kind (fault_of app line) → job_of_line line ≡ Err usage.Words
    among (inl m) = absurd (u.1 m)
    among (inr h) = refused (fault_of command_app line) (matches_of command_app line) kind
        (subst (λ (a : App). IsAmong kind (fault_of a line)) e h)
