use Rattle.std.proofs.Common.{◌≡◌, ap, sym, subst, ◌∙◌, length, w64, to_z, of_z, to_z-of_z, Result, Ok, true≢false, arith}
use Rattle.std.specs.Fmt.{signed_decimal}
use Rattle.std.specs.Str.{IsAscii}
use Rattle.std.proofs.lemmas.Fmt.{length_signed_le, IsAscii-signed, parse-signed_decimal}
use Rattle.std.proofs.lemmas.Str.{IsUtf8-from_ascii}
use Rattle.std.proofs.lemmas.Slice.Eq.{bytes_eq-Decides}
use Rattle.awk_value.proofs.Int64.{fits_int64}
use Rattle.awk_value.proofs.decimal.decimal_of_any.Goals as goal

ok_same : {X E : Type 0} (r : Result X E) (x y : X) → r ≡ Ok x → r ≡ Ok y → x ≡ y
ok_same r x y e f = let g = sym e ∙ f in cc

pub returns-then-text-gt20-clause-none : goal.returns-then-text-gt20-clause-none
returns-then-text-gt20-clause-none c n s e =
    let l = length_signed_le 19 n (omega arith) s in
    let h = ap length e in
    let g = c.if-text-gt20.true in
    omega arith

pub returns-in_default-clause-none : goal.returns-in_default-clause-none
returns-in_default-clause-none c n s e =
    c.in_default.ensures.cases.0 (IsUtf8-from_ascii c.args.text.now (subst IsAscii (sym e) (IsAscii-signed n s)))

pub returns-in_default-parse-clause-none : goal.returns-in_default-parse-clause-none
returns-in_default-parse-clause-none c n s e =
    c.in_default-parse.not-Ok n (parse-signed_decimal w64 n c.in-Ok.letters.now c.parse.result (fits_int64 n s) s (c.in-Ok.ensures.cases.0 ∙ e) c.parse.ensures.value.0)

pub returns-else-eq-clause-none : goal.returns-else-eq-clause-none
returns-else-eq-clause-none c n s e =
    let p =
    parse-signed_decimal w64 n c.in-Ok.letters.now c.parse.result (fits_int64 n s) s (c.in-Ok.ensures.cases.0 ∙ e) c.parse.ensures.value.0 in
    let q : c.in-Ok-parse.number ≡ n = ok_same c.parse.result _ _ c.in-Ok-parse.is p in
    let t =
    c.as_bytes.ensures.value ∙ c.format.ensures.text ∙ ap (λ z. signed_decimal (to_z w64 (of_z w64 z))) q
    ∙ ap signed_decimal (to_z-of_z (fits_int64 n s)) ∙ sym e in
    let u = (bytes_eq-Decides c.as_bytes.result.now c.args.text.now).1 t in
    true≢false (sym u ∙ sym c.eq.ensures ∙ c.if-eq.false)
