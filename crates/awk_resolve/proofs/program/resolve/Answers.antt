use Rattle.std.proofs.Common.{◌≡◌, ap, sym, ◌∙◌}
use Rattle.std.proofs.lemmas.Result.{err_from_is_err_and}
use Rattle.awk_grammar.specs.View.{items_of}
use Rattle.awk_kinds.specs.Signatures.{kinds_of}
use Rattle.awk_resolve.proofs.Planning.{fits_same, told_same, planned_same, fits_in_place}
use Rattle.awk_resolve.proofs.program.resolve.Goals as goal

pub returns-in_err-kinds : goal.returns-in_err-kinds
returns-in_err-kinds c =
    let p = err_from_is_err_and c.from_residual.result c.from_residual.ensures.1 in
    rw (p.1, p.2) (told_same c.deref.ensures.value c.in_err-kinds.ensures)

pub lower_program-requires : goal.lower_program-requires
lower_program-requires c =
    let items = items_of c.deref-2.result.now in
    let same : c.deref.result.now ≡ c.deref-2.result.now = c.deref.ensures.value ∙ sym c.deref-2.ensures.value in
    record {
      kinds = c.in_ok-kinds.ensures.1 ∙ ap (λ l. kinds_of (items_of l)) same;
      in_place = fits_in_place items ((c.law_of_refusals.ensures items).fits (fits_same same c.in_ok-kinds.ensures.0));
    }

pub returns : goal.returns
returns c = (
  fits_same c.deref.ensures.value c.in_ok-kinds.ensures.0,
  planned_same c.deref-2.ensures.value c.in_ok-lower_program.ensures.plan,
  c.in_ok-lower_program.ensures.kinds ∙ ap (λ l. kinds_of (items_of l)) c.deref-2.ensures.value,
)
