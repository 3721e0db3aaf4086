use Rattle.std.proofs.Common.{ℕ, ◌++◌, ◌∷◌, [], map, length, bytes_eq, if◌then◌else◌, append-nil, sym, ap, ◌∙◌}
use Rattle.std.specs.Global.{Vec}
use Rattle.std.proofs.lemmas.List.{length-map}
use Rattle.awk_kinds.specs.definitions.Names.{has_name, with_name}
use Rattle.awk_kinds.specs.definitions.Signatures.{place_of}
use Rattle.awk_kinds.proofs.Places.{position_place, key_added}
use Rattle.awk_kinds.proofs.Told.{any_map}
use Rattle.awk_kinds.proofs.Slots.{has_name-stands, stands_at, numbers_new}
use Rattle.awk_kinds.proofs.names.Names.add.Goals as goal

pub returns-in-Some-clause-number : goal.returns-in-Some-clause-number
returns-in-Some-clause-number c = record {
  grows = ([], sym (append-nil c.args.self.now));
  stands = stands_at c.args.self.now c.args.name.now c.in-Some.number (sym (c.in-Some.ensures.index ∙ position_place c.args.name.now c.self.inside.names.keys ∙ ap (λ names. place_of names c.args.name.now) c.self.view_is));
}

pub returns-in-Some-clause-names : goal.returns-in-Some-clause-names
returns-in-Some-clause-names c =
    let old = c.args.self.now in
    let name = c.args.name.now in
    sym (ap (λ b. if b then old else old ++ name ∷ []) (has_name-stands old c.in-Some.number name (returns-in-Some-clause-number c).stands))

pub returns-clause-names : goal.returns-clause-names
returns-clause-names c =
    let ks = c.self.inside.names.keys in
    ap (λ keys. map (λ (l : Vec ℕ). l.items) keys) c.in_ok-insert.ensures.keys
    ∙ key_added ks c.in_ok-from_slice.field-0 c.args.name.now c.in_ok-from_slice.ensures.items (sym c.in_default.ensures.found)
    ∙ ap (λ names. with_name names c.args.name.now) c.self.view_is

pub returns-clause-number : goal.returns-clause-number
returns-clause-number c =
    let ks = c.self.inside.names.keys in
    numbers_new c.args.self.now _ c.in-Ok.number c.args.name.now
    (ap (λ names. has_name names c.args.name.now) (sym c.self.view_is) ∙ any_map (λ (l : Vec ℕ). l.items) (bytes_eq c.args.name.now) ks ∙ sym c.in_default.ensures.found)
    (returns-clause-names c)
    (c.in-Ok.ensures.1 ∙ c.len.ensures.len ∙ (sym (length-map ks (λ (k : Vec ℕ). k.items)) ∙ ap length c.self.view_is))
