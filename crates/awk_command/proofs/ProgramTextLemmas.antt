-- Lemmas on reading the files of a program.
use Rattle.std.proofs.Common.{◌≡◌, ◌⊎◌, ◌+◌, ◌<◌, ℕ, Bool, true, false, inl, inr, List, [], ◌∷◌, ◌++◌, length, get_or, take, drop, Vec, Global, refl, sym, ◌∙◌, ap, subst, append_assoc, append-nil}
use Rattle.std.proofs.lemmas.List.{take-append-drop}
use Rattle.awk_streams.specs.Log.{Event, Read, Ended}
use Rattle.awk_streams.specs.Writes.{GoesOn}
use Rattle.awk_streams.proofs.WritesLemmas.{with_events-push}
use Rattle.awk_run.specs.Accepted.{longest_text}
use Rattle.awk_command.specs.declared.report.NotRun.{NotRun}
use Rattle.awk_command.specs.declared.report.NotRun.TheVariants.{Usage, NotReadable, Memory, Refused}
use Rattle.awk_command.specs.CommandLine.{texts}
use Rattle.awk_command.specs.ProgramText.{with_newline, ReadsBytes, ReadsInput, ReadsSome, ReadsFile, ReadsFiles, LeavesFile, ReadsUntil}
use Rattle.awk_command.specs.Parts.{ReadsChunk, LeavesChunk, LeavesInput}
use Rattle.awk_command.proofs.CommandLineLemmas.{word_at}

ReadsBytes-push : (id : ℕ) (bytes bs : List ℕ) (es : List Event) → ReadsBytes id bytes es → ReadsBytes id (bytes ++ bs) (es ++ Read id bs ∷ [])
ReadsBytes-push id bytes bs [] none = (refl, ([], ap (λ b. b ++ bs) none ∙ sym (append-nil bs), refl))
ReadsBytes-push id bytes bs (Read i b ∷ es) (same, (rest, is, later)) =
    (same, (rest ++ bs, ap (λ x. x ++ bs) is ∙ append_assoc b rest bs, ReadsBytes-push id rest bs es later))
ReadsBytes-push id bytes bs (e ∷ es) h = absurd h

pub GoesOn-read : (id : ℕ) (bytes bs : List ℕ) (old mid new : List Event) → GoesOn (ReadsBytes id bytes) old mid → new ≡ Read id bs ∷ mid → GoesOn (ReadsBytes id (bytes ++ bs)) old new
GoesOn-read id bytes bs old mid new so_far is = record {
  events = so_far.events ++ Read id bs ∷ [];
  log = is ∙ (ap (λ l. Read id bs ∷ l) so_far.log ∙ sym (with_events-push so_far.events (Read id bs) old));
  each = ReadsBytes-push id bytes bs so_far.events so_far.each;
}

pub ReadsFiles-push : (names : List (List ℕ)) (name text bytes : List ℕ) (log mid log' : List Event) → ReadsFiles names text log mid → ReadsFile name bytes mid log' → ReadsFiles (names ++ name ∷ []) (text ++ with_newline bytes) log log'
ReadsFiles-push [] name text bytes log mid log' (none, same) file =
    (bytes, ([], (log', subst (λ (l : List Event). ReadsFile name bytes l log') same file, ap (λ t. t ++ with_newline bytes) none ∙ sym (append-nil (with_newline bytes)), (refl, refl))))
ReadsFiles-push (first ∷ names) name text bytes log mid log' (some, (rest, (between, reads, is, later))) file =
    (some, (rest ++ with_newline bytes, (between, reads, ap (λ t. t ++ with_newline bytes) is ∙ append_assoc (with_newline some) rest (with_newline bytes), ReadsFiles-push names name rest bytes between mid log' later file)))

-- a reading that gave more, and the last one

pub read_on : (id : ℕ) (old : List Event) (bytes new : List ℕ) (mid log' : List Event) (more : Bool) → more ≡ true → GoesOn (ReadsBytes id bytes) old mid → ReadsChunk id more bytes new mid log' → GoesOn (ReadsBytes id new) old log'
read_on id old bytes new mid log' false e so_far reads = absurd (cc)
read_on id old bytes new mid log' true e so_far (bs, is, log) = subst (λ (b : List ℕ). GoesOn (ReadsBytes id b) old log') (sym is) (GoesOn-read id bytes bs old mid log' so_far log)

pub read_last : (id : ℕ) (old : List Event) (bytes new : List ℕ) (mid log' : List Event) (more : Bool) → more ≡ false → GoesOn (ReadsBytes id bytes) old mid → ReadsChunk id more bytes new mid log' → ReadsInput id new old log'
read_last id old bytes new mid log' true e so_far reads = absurd (cc)
read_last id old bytes new mid log' false e so_far (is, log) = record {
  read = mid;
  reads = subst (λ (b : List ℕ). GoesOn (ReadsBytes id b) old mid) (sym is) so_far;
  ended = inl log;
}

pub read_enough : (id : ℕ) (old : List Event) (bytes : List ℕ) (log : List Event) → longest_text < length bytes → GoesOn (ReadsBytes id bytes) old log → ReadsInput id bytes old log
read_enough id old bytes log long so_far = record { read = log; reads = so_far; ended = inr (long, refl) }

-- where the reading stops

pub leaves_input : (id : ℕ) (old : List Event) (bytes : List ℕ) (mid log' : List Event) (why : NotRun) → GoesOn (ReadsBytes id bytes) old mid → LeavesChunk why id mid log' → LeavesInput why id old log'
leaves_input id old bytes mid log' NotReadable so_far broke = record { bytes = bytes; read = mid; reads = so_far; broke = broke }
leaves_input id old bytes mid log' Memory so_far (inl same) = record { bytes = bytes; read = mid; reads = so_far; ended = inl same }
leaves_input id old bytes mid log' Memory so_far (inr (bs, is)) =
    record { bytes = bytes ++ bs; read = log'; reads = GoesOn-read id bytes bs old mid log' so_far is; ended = inl refl }
leaves_input id old bytes mid log' Usage so_far h = absurd h
leaves_input id old bytes mid log' (Refused refusal) so_far h = absurd h

some_of_input : (id : ℕ) (bytes : List ℕ) (log log' : List Event) → ReadsInput id bytes log log' → ReadsSome id log log'
some_of_input id bytes log log' whole = record {
  bytes = bytes;
  read = whole.read;
  reads = whole.reads;
  ended = elim whole.ended as (λ _. (log' ≡ whole.read) ⊎ (log' ≡ Ended id ∷ whole.read)) [ inl is ↦ inr is | inr long ↦ inl long.1 ];
}

pub leaves_read : (name bytes : List ℕ) (log log' : List Event) → ReadsFile name bytes log log' → LeavesFile Memory name log log'
leaves_read name bytes log log' file =
    inr (record { id = file.id; answer = file.answer; left = file.left; does = some_of_input file.id bytes _ file.left file.does; closed = file.closed })

pub reads_until : (why : NotRun) (words : List (Vec ℕ Global)) (i : ℕ) (word : Vec ℕ Global) (name text : List ℕ) (log mid log' : List Event) → i < length words → word ≡ get_or words i word → name ≡ word.items → ReadsFiles (take i (texts words)) text log mid → LeavesFile why name mid log' → ReadsUntil why (texts words) log log'
reads_until why words i word name text log mid log' inside is same files leaves = record {
  before = take i (texts words);
  name = name;
  behind = drop (i + 1) (texts words);
  named = sym (take-append-drop i (texts words)) ∙ ap (λ l. take i (texts words) ++ l) (word_at words i word name inside is same);
  text = text;
  between = mid;
  reads = files;
  leaves = leaves;
}
