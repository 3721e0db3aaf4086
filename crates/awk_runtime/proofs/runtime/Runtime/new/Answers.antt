use Rattle.std.proofs.Common.{ℕ, suc, length, ap, sym, ◌∙◌}
use Rattle.std.proofs.lemmas.List.{length-map}
use Rattle.std.specs.Prelude.{get_or}
use Rattle.std.specs.Global.{Vec}
use Rattle.awk_value.specs.declared.value.Value.{Value}
use Rattle.awk_value.specs.declared.value.Value.TheVariants.{Nothing}
use Rattle.awk_kinds.specs.Variables.{value_of, name_of, initial_value}
use Rattle.awk_runtime.proofs.runtime.Runtime.new.Goals as goal

pub returns-clause-start : goal.returns-clause-start
returns-clause-start c =
    let t = c.put_together.ensures in
    let p = c.in_ok-parts.ensures {u = tt} in
    record {
      text = ap (λ r. r.text) t.current ∙ p.text;
      fields = ap (λ r. r.fields) t.current ∙ p.fields;
      names = t.names;
      own = c.scalar_count-own.ensures.own;
      specials = λ x. ap (λ v. value_of v (name_of x)) t.specials ∙ (p.specials (name_of x) ∙ ap (λ n. initial_value (suc n) (name_of x)) (sym (length-map c.args.operands.now (λ (word : Vec ℕ). word.items))));
      globals = λ i. ap (λ (v : Vec Value). get_or v.items i Nothing) t.globals ∙ p.nothing i;
      slots = ap (λ (v : Vec Value). length v.items) t.globals ∙ p.slots;
      arrays = t.arrays ∙ p.arrays;
      frames = t.frames;
      streams = t.streams ∙ p.streams;
      next = t.next;
      input_seen = t.input_seen;
      inside = t.inside;
      status = t.status;
      steps = t.steps;
    }
