use Rattle.std.proofs.Common.{◌≡◌, ℕ, ◌-◌, false, length, take, drop, Option, Some, None, refl, sym, ap, ◌∙◌, subst}
use Rattle.std.specs.Prelude.{not}
use Rattle.std.specs.Option.{is_some}
use Rattle.std.proofs.lemmas.Bool.{false≢true}
use Rattle.memchr.specs.Find.{FindsNeedle}
use Rattle.awk_ere.proofs.RequiredOccurs.{none_found}
use Rattle.awk_ere.proofs.pattern.Pattern.lacks_required.Goals as goal

nothing : (r : Option ℕ) → is_some r ≡ false → r ≡ None
nothing None e = refl
nothing (Some x) e = absurd (false≢true (sym e))

pub returns-in-Some : goal.returns-in-Some
returns-in-Some c = λ none t means.
    let s = c.args.text.now in
    let from = c.args.from in
    let needle = c.in-Some.finder in
    let found = nothing c.find.result (c.is_none.ensures ∙ ap not none) in
    none_found needle c.args.self.now (c.requires.same.required needle c.in-Some.is) t means s from
    (subst (FindsNeedle (take (length s - from) (drop from s)) needle 0) found c.find.ensures)
