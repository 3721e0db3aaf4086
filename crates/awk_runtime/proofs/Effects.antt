-- Requests that are met one after the other, and outputs that begin with what is printed.
use Rattle.std.proofs.Common.{◌≡◌, ℕ, zero, suc, true, false, List, [], ◌∷◌, ◌++◌, refl, sym, ap, ◌∙◌, subst, append_assoc, append-nil}
use Rattle.awk_streams.specs.Oracle.{Oracle}
use Rattle.awk_streams.specs.Openings.{Opening, IsBeginning, Begins}
use Rattle.awk_semantics.specs.State.{Request, Effect, Printed, Requested, OpensMain, OpensInput, OpensOutput, RecordOfMain, RecordOf, Closes, Flushes, Runs, Ends}
use Rattle.awk_semantics.specs.Meaning.{with_bytes, outputs_asked, outputs_from, first_outputs, outputs_after, Asked, requests_from}
use Rattle.awk_semantics.specs.Order.{Stage, GoesBetween, Meets, MeetsAll}
use Rattle.awk_semantics.proofs.Requests.{goes-self, meets_append, requests-append}

-- the log goes on without a request, and bytes are printed or nothing is
pub turn_between : (oracle : Oracle) (past more : List Effect) (a b c : Stage) → requests_from (outputs_after past) more ≡ [] → MeetsAll oracle (requests_from first_outputs past) a b → GoesBetween b c → MeetsAll oracle (requests_from first_outputs (past ++ more)) a c
turn_between oracle past more a b c none met goes =
    subst (λ (l : List Asked). MeetsAll oracle l a c) (ap (λ l. requests_from first_outputs past ++ l) (sym none) ∙ sym (requests-append first_outputs past more)) (meets_append oracle (requests_from first_outputs past) [] a b c met goes)

-- the log meets a request more
pub turn_requested : (oracle : Oracle) (past : List Effect) (what : Request) (a b c : Stage) → MeetsAll oracle (requests_from first_outputs past) a b → Meets oracle what (outputs_after past) b c → MeetsAll oracle (requests_from first_outputs (past ++ Requested what ∷ [])) a c
turn_requested oracle past what a b c met meets =
    subst (λ (l : List Asked). MeetsAll oracle l a c) (sym (requests-append first_outputs past (Requested what ∷ [])))
    (meets_append oracle (requests_from first_outputs past) (record { what = what; outputs = outputs_after past } ∷ []) a b c met (b, c, goes-self b, meets, goes-self c))

-- outputs

pub outputs-append : (os : List Opening) (xs ys : List Effect) → outputs_from os (xs ++ ys) ≡ outputs_from (outputs_from os xs) ys
outputs-append os [] ys = refl
outputs-append os (Printed n bytes ∷ xs) ys = outputs-append (with_bytes n bytes os) xs ys
outputs-append os (Requested what ∷ xs) ys = outputs-append (outputs_asked what os) xs ys

pub beginning-self : (x : List ℕ) → IsBeginning x x
beginning-self x = record { more = []; is = sym (append-nil x) }

pub beginning-then : {x y z : List ℕ} → IsBeginning x y → IsBeginning y z → IsBeginning x z
beginning-then {x = x} p q = record { more = p.more ++ q.more; is = q.is ∙ (ap (λ l. l ++ q.more) p.is ∙ append_assoc x p.more q.more) }

pub begins-then : (xs ys zs : List Opening) → Begins xs ys → Begins ys zs → Begins xs zs
begins-then [] ys zs p q = tt
begins-then (x ∷ xs) [] zs p q = absurd p
begins-then (x ∷ xs) (y ∷ ys) [] p q = absurd q
begins-then (x ∷ xs) (y ∷ ys) (z ∷ zs) p q = (p.0 ∙ q.0, beginning-then p.1 q.1, begins-then xs ys zs p.2 q.2)

pub begins-self : (os : List Opening) → Begins os os
begins-self [] = tt
begins-self (o ∷ os) = (refl, beginning-self o.bytes, begins-self os)

begins-behind : (os more : List Opening) → Begins os (os ++ more)
begins-behind [] more = tt
begins-behind (o ∷ os) more = (refl, beginning-self o.bytes, begins-behind os more)

pub begins-bytes : (n : ℕ) (bytes : List ℕ) (os : List Opening) → Begins os (with_bytes n bytes os)
begins-bytes n bytes [] = tt
begins-bytes zero bytes (o ∷ os) = (refl, record { more = bytes; is = refl }, begins-self os)
begins-bytes (suc n) bytes (o ∷ os) = (refl, beginning-self o.bytes, begins-bytes n bytes os)

begins-asked : (what : Request) (os : List Opening) → Begins os (outputs_asked what os)
begins-asked (OpensMain kind name) os = begins-self os
begins-asked (OpensInput kind name) os = begins-self os
begins-asked (OpensOutput kind name mode true) os = begins-behind os _
begins-asked (OpensOutput kind name mode false) os = begins-self os
begins-asked (RecordOfMain separator left) os = begins-self os
begins-asked (RecordOf kind name separator left) os = begins-self os
begins-asked (Closes x) os = begins-self os
begins-asked (Flushes name) os = begins-self os
begins-asked (Runs command) os = begins-self os
begins-asked Ends os = begins-self os

-- what is printed later only adds to them
pub begins-later : (os : List Opening) (effects : List Effect) → Begins os (outputs_from os effects)
begins-later os [] = begins-self os
begins-later os (Printed n bytes ∷ effects) = begins-then os (with_bytes n bytes os) (outputs_from (with_bytes n bytes os) effects) (begins-bytes n bytes os) (begins-later (with_bytes n bytes os) effects)
begins-later os (Requested what ∷ effects) = begins-then os (outputs_asked what os) (outputs_from (outputs_asked what os) effects) (begins-asked what os) (begins-later (outputs_asked what os) effects)

pub begins-more : (past more : List Effect) → Begins (outputs_after past) (outputs_after (past ++ more))
begins-more past more = subst (λ (l : List Opening). Begins (outputs_after past) l) (sym (outputs-append first_outputs past more)) (begins-later (outputs_after past) more)

pub begins-longer : (os : List Opening) (past xs ys : List Effect) → Begins os (outputs_after (past ++ xs)) → Begins os (outputs_after (past ++ (xs ++ ys)))
begins-longer os past xs ys h = begins-then os (outputs_after (past ++ xs)) (outputs_after (past ++ (xs ++ ys))) h (subst (λ (l : List Effect). Begins (outputs_after (past ++ xs)) (outputs_after l)) (append_assoc past xs ys) (begins-more (past ++ xs) ys))

-- outputs that have all that was printed begin with what is printed after it
pub begins_still : (os : List Opening) (past more : List Effect) → os ≡ outputs_after past → Begins os (outputs_after (past ++ more))
begins_still os past more is = subst (λ (xs : List Opening). Begins xs (outputs_after (past ++ more))) (sym is) (begins-more past more)
