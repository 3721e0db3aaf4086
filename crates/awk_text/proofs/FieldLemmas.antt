-- The parts of a text that is brought to its width.
use Rattle.std.proofs.Common.{◌≡◌, ℕ, ◌+◌, ◌-◌, ◌≤◌, Bool, true, false, List, [], ◌++◌, length, replicate, take, ℤ, sym, ap, ◌∙◌, arith, append_assoc, append-nil, length-append}
use Rattle.std.proofs.lemmas.List.{length-replicate, replicate-append-replicate, take-take, length-take}
use Rattle.std.proofs.Math.Seq.{take-append_seam, take-length}
use Rattle.awk_text.specs.support.Begun.{padding_of}
use Rattle.awk_text.specs.definitions.Directives.{padded, is_filled, integer_field, integer_text, shown_digits, prefix_of, magnitude_of, with_octal_zero, at_least}
use Rattle.awk_text.specs.declared.directive.Directive.{Directive}
use Rattle.awk_text.specs.declared.directive.Notation.{Notation}
use Rattle.awk_text.specs.declared.field.Padding.{Padding}

-- what was added stands behind the old bytes
pub begun_by : (old more new : List ℕ) → new ≡ old ++ more → take (length old) new ≡ old
begun_by old more new e = ap (take (length old)) e ∙ take-append_seam old more

pub begun_same : (old new : List ℕ) → new ≡ old → take (length old) new ≡ old
begun_same old new e = ap (take (length old)) e ∙ take-length old

-- and so does what was added behind that
pub begun_trans : (old mid new : List ℕ) → take (length old) mid ≡ old → take (length mid) new ≡ mid → take (length old) new ≡ old
begun_trans old mid new first second =
    let within : length old ≤ length mid = omega (arith, ap length first, length-take (length old) mid) in
    sym (take-take (length old) (length mid) new within) ∙ (ap (take (length old)) second ∙ first)

pub begun_five : (old o1 o2 o3 o4 o5 : List ℕ) → take (length old) o1 ≡ old → take (length o1) o2 ≡ o1 → take (length o2) o3 ≡ o2 → take (length o3) o4 ≡ o3 → take (length o4) o5 ≡ o4 → take (length old) o5 ≡ old
begun_five old o1 o2 o3 o4 o5 e1 e2 e3 e4 e5 =
    begun_trans old o1 o5 e1 (begun_trans o1 o2 o5 e2 (begun_trans o2 o3 o5 e3 (begun_trans o3 o4 o5 e4 e5)))

missing_is : (width lead : ℕ) (prefix body : List ℕ) → width - (length prefix + length (replicate lead 48 ++ body)) ≡ width - (length prefix + lead + length body)
missing_is width lead prefix body = omega (arith, length-append (replicate lead 48) body, length-replicate {A = ℕ} lead 48)

five : (old o1 o2 o3 o4 o5 a b z d e : List ℕ) → o1 ≡ old ++ a → o2 ≡ o1 ++ b → o3 ≡ o2 ++ z → o4 ≡ o3 ++ d → o5 ≡ o4 ++ e → o5 ≡ old ++ (a ++ (b ++ (z ++ (d ++ e))))
five old o1 o2 o3 o4 o5 a b z d e e1 e2 e3 e4 e5 = rw (e5, e4, e3, e2, e1) (simp append_assoc)

fitted_left : (zeros : Bool) (width lead missing : ℕ) (prefix body old new : List ℕ) → missing ≡ width - (length prefix + lead + length body) →
    new ≡ old ++ ([] ++ (prefix ++ (replicate lead 48 ++ (body ++ replicate missing 32)))) → new ≡ old ++ padded true zeros width prefix (replicate lead 48 ++ body)
fitted_left zeros width lead missing prefix body old new m e =
    e ∙ (ap (λ t. old ++ (prefix ++ t)) (sym (append_assoc (replicate lead 48) body (replicate missing 32)))
    ∙ ap (λ k. old ++ (prefix ++ ((replicate lead 48 ++ body) ++ replicate k 32))) (m ∙ sym (missing_is width lead prefix body)))

fitted_zeros : (width lead missing : ℕ) (prefix body old new : List ℕ) → missing ≡ width - (length prefix + lead + length body) →
    new ≡ old ++ ([] ++ (prefix ++ (replicate (missing + lead) 48 ++ (body ++ [])))) → new ≡ old ++ padded false true width prefix (replicate lead 48 ++ body)
fitted_zeros width lead missing prefix body old new m e =
    e ∙ (ap (λ t. old ++ (prefix ++ (replicate (missing + lead) 48 ++ t))) (append-nil body)
    ∙ (ap (λ z. old ++ (prefix ++ (z ++ body))) (sym (replicate-append-replicate missing lead 48))
    ∙ (ap (λ t. old ++ (prefix ++ t)) (append_assoc (replicate missing 48) (replicate lead 48) body)
    ∙ ap (λ k. old ++ (prefix ++ (replicate k 48 ++ (replicate lead 48 ++ body)))) (m ∙ sym (missing_is width lead prefix body)))))

fitted_right : (width lead missing : ℕ) (prefix body old new : List ℕ) → missing ≡ width - (length prefix + lead + length body) →
    new ≡ old ++ (replicate missing 32 ++ (prefix ++ (replicate lead 48 ++ (body ++ [])))) → new ≡ old ++ padded false false width prefix (replicate lead 48 ++ body)
fitted_right width lead missing prefix body old new m e =
    e ∙ (ap (λ t. old ++ (replicate missing 32 ++ (prefix ++ (replicate lead 48 ++ t)))) (append-nil body)
    ∙ ap (λ k. old ++ (replicate k 32 ++ (prefix ++ (replicate lead 48 ++ body)))) (m ∙ sym (missing_is width lead prefix body)))

zero_lead : (lead : ℕ) → 0 + lead ≡ lead
zero_lead lead = omega arith

-- the five stretches of a field are the text brought to its width
fitted : (minus zeros : Bool) (width lead missing : ℕ) (prefix body old new : List ℕ) → missing ≡ width - (length prefix + lead + length body) →
    new ≡ old ++ (replicate (padding_of minus zeros missing).before 32 ++ (prefix ++ (replicate ((padding_of minus zeros missing).zeros + lead) 48 ++ (body ++ replicate (padding_of minus zeros missing).behind 32)))) →
    new ≡ old ++ padded minus zeros width prefix (replicate lead 48 ++ body)
fitted true zeros width lead missing prefix body old new m e =
    fitted_left zeros width lead missing prefix body old new m
    (e ∙ ap (λ (k : ℕ). old ++ ([] ++ (prefix ++ (replicate k 48 ++ (body ++ replicate missing 32))))) (zero_lead lead))
fitted false true width lead missing prefix body old new m e = fitted_zeros width lead missing prefix body old new m e
fitted false false width lead missing prefix body old new m e =
    fitted_right width lead missing prefix body old new m
    (e ∙ ap (λ (k : ℕ). old ++ (replicate missing 32 ++ (prefix ++ (replicate k 48 ++ (body ++ []))))) (zero_lead lead))

pub padded_at : (minus zeros : Bool) (width lead missing : ℕ) (prefix body old o1 o2 o3 o4 o5 : List ℕ) (p : Padding) → missing ≡ width - (length prefix + lead + length body) → p ≡ padding_of minus zeros missing →
    o1 ≡ old ++ replicate p.before 32 → o2 ≡ o1 ++ prefix → o3 ≡ o2 ++ replicate (p.zeros + lead) 48 → o4 ≡ o3 ++ body → o5 ≡ o4 ++ replicate p.behind 32 →
    o5 ≡ old ++ padded minus zeros width prefix (replicate lead 48 ++ body)
padded_at minus zeros width lead missing prefix body old o1 o2 o3 o4 o5 p m ep e1 e2 e3 e4 e5 =
    let all = five old o1 o2 o3 o4 o5 (replicate p.before 32) prefix (replicate (p.zeros + lead) 48) body (replicate p.behind 32) e1 e2 e3 e4 e5 in
    fitted minus zeros width lead missing prefix body old o5 m
    (all ∙ ap (λ (q : Padding). old ++ (replicate q.before 32 ++ (prefix ++ (replicate (q.zeros + lead) 48 ++ (body ++ replicate q.behind 32))))) ep)

-- the zeros and the digits are those that the precision asks for
pub digits_at : (d : Directive) (prefix ds shown old new : List ℕ) (lead : ℕ) (zeros : Bool) → zeros ≡ is_filled d → replicate lead 48 ++ ds ≡ shown →
    new ≡ old ++ padded d.flags.minus zeros d.width prefix (replicate lead 48 ++ ds) → new ≡ old ++ integer_field d prefix shown
digits_at d prefix ds shown old new lead zeros ez es e =
    e ∙ (ap (λ body. old ++ padded d.flags.minus zeros d.width prefix body) es
    ∙ ap (λ z. old ++ padded d.flags.minus z d.width prefix shown) ez)

pub integer_at : (d : Directive) (notation : Notation) (z : ℤ) (n : ℕ) (prefix old new : List ℕ) → prefix ≡ prefix_of notation d.flags z → n ≡ magnitude_of notation z →
    new ≡ old ++ integer_field d prefix (shown_digits d notation n) → new ≡ old ++ integer_text d notation z
integer_at d notation z n prefix old new ep en e =
    e ∙ (ap (λ p. old ++ integer_field d p (shown_digits d notation n)) ep
    ∙ ap (λ k. old ++ integer_field d (prefix_of notation d.flags z) (shown_digits d notation k)) en)

pub shown_at : (d : Directive) (notation : Notation) (prefix ds shown old new : List ℕ) → ds ≡ shown → new ≡ old ++ integer_field d prefix (with_octal_zero notation d.flags.sharp (at_least d.precision ds)) →
    new ≡ old ++ integer_field d prefix (with_octal_zero notation d.flags.sharp (at_least d.precision shown))
shown_at d notation prefix ds shown old new es e = e ∙ ap (λ t. old ++ integer_field d prefix (with_octal_zero notation d.flags.sharp (at_least d.precision t))) es
