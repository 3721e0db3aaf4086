-- What follows from how the words are served.
use Rattle.std.proofs.Common.{◌≡◌, ◌⊎◌, inl, inr, ℕ, List, Result, Ok, Err, Vec, refl, ◌∙◌, ap, subst}
use Rattle.std.specs.Global.{Global}
use Rattle.awk_streams.specs.Writes.{OnlyWritesTo}
use Rattle.awk_grammar.specs.Tree.{Item}
use Rattle.awk_run.specs.Accepted.{Accepted}
use Rattle.awk_streams.specs.WorldState.{WorldState}
use Rattle.awk_run.specs.Meaning.{StartValues}
use Rattle.awk_semantics.specs.declared.outcome.Outcome.{Outcome}
use Rattle.awk_runtime.specs.declared.start.Assignment.{Assignment}
use Rattle.awk_command.specs.CommandLine.{ProgramSource, Text, CommandLine}
use Rattle.awk_command.specs.Invocation.{RunsText, RunsProvidedText, RunsCommandLine, DoesNothing, Invokes, status_after, Reports, OnlyReports, RunsUtility}
use Rattle.awk_command.specs.ProgramText.{ProvidesText}
use Rattle.awk_command.specs.Report.{ReportsLine, ReportsNotRun}
use Rattle.awk_command.specs.declared.report.NotRun.{NotRun}
use Rattle.awk_command.specs.declared.report.NotRun.TheVariants.{Usage, NotReadable, Memory, Refused}

says_only : (line : List ℕ) (k k' : WorldState) → ReportsLine line k k' → OnlyWritesTo 1 k.log k'.log
says_only line k k' says = (_, says.writes)

why_only : (why : NotRun) (k k' : WorldState) → ReportsNotRun why k k' → OnlyWritesTo 1 k.log k'.log
why_only (Refused refusal) k k' (inl says) = says_only _ k k' says
why_only (Refused refusal) k k' (inr says) = says_only _ k k' says
why_only Usage k k' says = says_only _ k k' says
why_only NotReadable k k' says = says_only _ k k' says
why_only Memory k k' says = says_only _ k k' says

-- where nothing was run and nothing was done before the line
untouched_refusal : (is_logged : Type 0) (before left after : WorldState) (status : ℕ) (outcome : Result Outcome NotRun) (why : NotRun) → outcome ≡ Err why → left ≡ before → status ≡ status_after outcome → (is_logged → Reports outcome left after) → OnlyReports is_logged before status after
untouched_refusal is_logged before left after status outcome why is same answered told = record {
  answered = answered ∙ ap status_after is;
  only = λ t. subst (λ (k : WorldState). OnlyWritesTo 1 k.log after.log) same (why_only why left after (subst (λ (o : Result Outcome NotRun). Reports o left after) is (told t)));
}

unused_refusal : (is_logged : Type 0) (before left after : WorldState) (status : ℕ) (outcome : Result Outcome NotRun) (why : NotRun) → DoesNothing why before outcome left → status ≡ status_after outcome → (is_logged → Reports outcome left after) → OnlyReports is_logged before status after
unused_refusal is_logged before left after status outcome why unused answered told = untouched_refusal is_logged before left after status outcome why unused.answered unused.untouched answered told

either_refusal : (is_logged : Type 0) (before left after : WorldState) (status : ℕ) (outcome : Result Outcome NotRun) → DoesNothing Usage before outcome left ⊎ DoesNothing Memory before outcome left → status ≡ status_after outcome → (is_logged → Reports outcome left after) → OnlyReports is_logged before status after
either_refusal is_logged before left after status outcome (inl u) answered told = unused_refusal is_logged before left after status outcome Usage u answered told
either_refusal is_logged before left after status outcome (inr u) answered told = unused_refusal is_logged before left after status outcome Memory u answered told

-- a text that is no program was refused, or there was no memory
text_refusal : (is_logged : Type 0) (text : List ℕ) (start : StartValues) (limit : ℕ) (before left : WorldState) (outcome : Result Outcome NotRun) → ((items : List Item) → Accepted text items → ⊥) → RunsText is_logged text start limit before outcome left → (why : NotRun) × (outcome ≡ Err why) × (left ≡ before)
text_refusal is_logged text start limit before left (Ok outcome) none ran = absurd (none ran.run.0 ran.run.1)
text_refusal is_logged text start limit before left (Err (Refused refusal)) none ran = (Refused refusal, refl, ran.1)
text_refusal is_logged text start limit before left (Err Memory) none ran = (Memory, refl, ran)
text_refusal is_logged text start limit before left (Err Usage) none ran = absurd ran
text_refusal is_logged text start limit before left (Err NotReadable) none ran = absurd ran

provided_refusal : (is_logged : Type 0) (c : CommandLine) (environ : List Assignment) (word : List ℕ) (before between left : WorldState) (text : Result (Vec ℕ Global) NotRun) (outcome : Result Outcome NotRun) → ((items : List Item) → Accepted word items → ⊥) → ProvidesText is_logged (Text word) before text between → RunsProvidedText is_logged c environ text between outcome left → (why : NotRun) × (outcome ≡ Err why) × (left ≡ before)
provided_refusal is_logged c environ word before between left (Ok text) outcome none provided ran =
    let found = text_refusal is_logged text.items _ _ between left outcome (λ items accepted. none items (subst (λ (t : List ℕ). Accepted t items) provided.0 accepted)) ran in
    (found.0, found.1, found.2 ∙ provided.1)
provided_refusal is_logged c environ word before between left (Err why) outcome none provided ran = absurd provided

run_refusal : (is_logged : Type 0) (c : CommandLine) (environ : List Assignment) (word : List ℕ) (before left after : WorldState) (status : ℕ) (outcome : Result Outcome NotRun) → c.source ≡ Text word → ((items : List Item) → Accepted word items → ⊥) → RunsCommandLine is_logged c environ before outcome left ⊎ DoesNothing Memory before outcome left →
    status ≡ status_after outcome → (is_logged → Reports outcome left after) → OnlyReports is_logged before status after
run_refusal is_logged c environ word before left after status outcome source none (inl runs) answered told =
    let found = provided_refusal is_logged c environ word before runs.between left runs.text outcome none (subst (λ (s : ProgramSource). ProvidesText is_logged s before runs.text runs.between) source runs.provided) runs.ran in
    untouched_refusal is_logged before left after status outcome found.0 found.1 found.2 answered told
run_refusal is_logged c environ word before left after status outcome source none (inr u) answered told = unused_refusal is_logged before left after status outcome Memory u answered told

pub runs_utility : (is_logged : Type 0) (words : List (List ℕ)) (environ : List Assignment) (before left after : WorldState) (status : ℕ) (outcome : Result Outcome NotRun) → Invokes is_logged words environ before outcome left → status ≡ status_after outcome → (is_logged → Reports outcome left after) → RunsUtility is_logged words environ before status after
runs_utility is_logged words environ before left after status outcome invokes answered told = record {
  outcome = outcome;
  left = left;
  invokes = invokes;
  answered = answered;
  reported = told;
  usage = λ none. either_refusal is_logged before left after status outcome (invokes.usage none) answered told;
  refused = λ c text is source none. run_refusal is_logged c environ text before left after status outcome source none (invokes.runs c is) answered told;
}
