use Rattle.std.proofs.Common.{◌≡◌, bytes_eq, ◌∷◌, [], ◌++◌, sym, ap, ◌∙◌}
use Rattle.indexmap.proofs.CallerLemmas.{insert_entry-new}
use Rattle.awk_kinds.proofs.Defined.{entry_added, not_found}
use Rattle.awk_kinds.proofs.functions.Functions.add.Goals as goal

pub returns-in_ok-insert : goal.returns-in_ok-insert
returns-in_ok-insert c =
    let es = c.args.self.now.first.entries in
    let key = c.in_ok-key.key in
    let absent = not_found es c.args.name.now key.items (c.in_ok-key.ensures.items ∙ c.as_slice.ensures) (sym c.is_function.ensures ∙ c.if-not-is_function.true) in
    let last : c.insert.new.self.entries ≡ es ++ (key, c.in_ok-copied.field-0) ∷ [] = c.in_ok-insert.ensures.entries ∙ insert_entry-new (λ k l. bytes_eq k.items l.items) c.args.self.now.first key c.in_ok-copied.field-0 absent in
    record {
      names = c.in_ok-push.ensures.items ∙ ap (λ x. c.args.self.now.names.items ++ x ∷ []) c.in_ok-clone.ensures.cases;
      first = entry_added c.args.self.now.first.entries c.insert.new.self.entries c.in_ok-key.key c.in_ok-copied.field-0 c.args.name.now c.args.parameters.now last (c.in_ok-key.ensures.items ∙ c.as_slice.ensures) c.in_ok-copied.ensures;
    }
