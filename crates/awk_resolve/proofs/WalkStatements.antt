-- What is built of a walk over an array does what it means.
use Rattle.std.proofs.Common.{◌≡◌, ℕ, List, [], ◌∷◌, ◌++◌, get_or, map, pos, refl, sym, ap, ◌∙◌, arith}
use Rattle.awk_value.specs.declared.value.Value.{Value}
use Rattle.awk_value.specs.declared.value.Value.TheVariants as value
use Rattle.awk_grammar.specs.Tree.{Statement, ForIn}
use Rattle.awk_kinds.specs.definitions.Kinds.{FormalParameter}
use Rattle.awk_kinds.specs.definitions.Signatures.{ProgramKinds}
use Rattle.awk_semantics.specs.definitions.State.{State, ◌>>=◌}
use Rattle.awk_semantics.specs.definitions.Primitives.{spend, put, keys_in}
use Rattle.awk_semantics.specs.definitions.Semantics.{walk, exec}
use Rattle.awk_semantics.proofs.KeepsForms.{keeps_exec, keeps_walk, keeps_keys_in}
use Rattle.awk_storage.specs.declared.position.Variable.{Variable}
use Rattle.awk_storage.specs.declared.position.Array.{Array}
use Rattle.awk_storage.specs.support.Forms.{keys_of_array}
use Rattle.awk_storage.specs.support.Positions.{put_variable}
use Rattle.awk_resolve.specs.declared.node.Node.TheVariants as n
use Rattle.awk_resolve.specs.declared.builder.Builder.{Builder}
use Rattle.awk_resolve.specs.declared.builder.Exits.{Exits}
use Rattle.awk_resolve.specs.support.Nodes.{walk_values, made}
use Rattle.awk_resolve.specs.support.Builds.{Pushes, Opens, Closes, IsIn, Program, Execute, leave_by, place_in, turns_in, Builds, Stands, FindsVariable, IsArrayOf}
use Rattle.awk_resolve.proofs.Calculus.{first_same, later_in}
use Rattle.awk_resolve.proofs.Walks.{IsWalk, keys_dropped, one_less, walks}
use Rattle.awk_resolve.proofs.Building.{grows, extends, longer, placed, at_once, opened, stays, enclosed}
use Rattle.awk_resolve.proofs.Elements.{gives_keys}
use Rattle.awk_resolve.proofs.Passing.{for_in_then}
use Rattle.awk_resolve.proofs.SimpleStatements.{stepped}
use Rattle.awk_resolve.proofs.LoopStatements.{levels_alike}

-- the pieces of a walk in a program: what its places do
record Pieces {kinds : ProgramKinds} (parameters : List FormalParameter) (p : Program kinds) (x : List ℕ) (y : Statement) (exits : Exits) (variable : Variable) (number next leave body take : ℕ) : Type 0 where
  next_is : (m : ℕ) → place_in p m next ≡ made p.tables p.functions (turns_in p m) (place_in p m) (n.NextKey number exits.next)
  leave_is : (m : ℕ) → place_in p m leave ≡ made p.tables p.functions (turns_in p m) (place_in p m) (n.LeaveWalk exits.next)
  take_is : (m : ℕ) → place_in p m take ≡ made p.tables p.functions (turns_in p m) (place_in p m) (n.TakeKey variable body)
  head : get_or p.all.heads.items number 0 ≡ take
  puts : (m : ℕ) (w : Value) (s : State) → IsIn p.tables parameters m s → put x w s ≡ put_variable p.tables.names variable w s
  runs : (m : ℕ) (vs : List Value) (s : State) → IsIn p.tables parameters m s → place_in p m body vs s ≡ (exec p.functions y >>= leave_by (record { next = next; breaks = leave; continues = next }) (place_in p m) vs) s

module _ {kinds : ProgramKinds} {parameters : List FormalParameter} {p : Program kinds} {x : List ℕ} {y : Statement} {exits : Exits} {variable : Variable} {number next leave body take : ℕ} (pieces : Pieces parameters p x y exits variable number next leave body take) (vs : List Value) where
  taken : (m : ℕ) (key : List ℕ) (keys : List (List ℕ)) (s : State) → IsIn p.tables parameters m s → place_in p m take (walk_values (key ∷ keys) ++ vs) s ≡ (put x (value.Text key) >>= λ _. place_in p m body (walk_values keys ++ vs)) s
  taken m key keys s i =
      let rest : List Value = map (λ k. value.Text k) keys ++ vs in
      at_once (pieces.take_is m) (walk_values (key ∷ keys) ++ vs) s
      ∙ ap (λ k. (put_variable p.tables.names variable (value.Text key) >>= λ _. place_in p m body (value.Number (pos k) ∷ rest)) s) (one_less keys key)
      ∙ first_same _ _ (λ _. place_in p m body (walk_values keys ++ vs)) s (sym (pieces.puts m (value.Text key) s i))

  is_walk : IsWalk p.tables parameters x (exec p.functions y) vs (λ m. turns_in p m number) (λ m. place_in p m take) (λ m. place_in p m body) (λ m. place_in p m next) (λ m. place_in p m leave) (λ m. place_in p m exits.next vs)
      (λ m f. leave_by exits (place_in p m) vs f) (λ m ws f. leave_by (record { next = next; breaks = leave; continues = next }) (place_in p m) ws f)
  is_walk = record {
    keeps_body = keeps_exec p.functions p.calls.keep y;
    none = λ ws s. refl;
    more = λ m ws s. ap (λ i. (spend >>= λ _. place_in p m i ws) s) pieces.head;
    ends = λ m s. at_once (pieces.next_is m) (walk_values [] ++ vs) s;
    nexts = λ m key keys s. at_once (pieces.next_is m) (walk_values (key ∷ keys) ++ vs) s;
    takes = taken;
    runs = pieces.runs;
    leaves = λ m keys s. at_once (pieces.leave_is m) (walk_values keys ++ vs) s ∙ ap (λ (ws : List Value). place_in p m exits.next ws s) (keys_dropped keys vs);
    out_normal = λ m. refl;
    out_return = λ m w. refl;
    normal = λ m ws. refl;
    continue = λ m ws. refl;
    break = λ m ws. refl;
    return = λ m ws w. refl;
    alike = λ m m' s f low high. levels_alike p exits vs m m' s f low high;
  }

  walked : (keys : List (List ℕ)) (m : ℕ) (s : State) → IsIn p.tables parameters m s → place_in p m next (walk_values keys ++ vs) s ≡ (walk x keys (exec p.functions y) >>= leave_by exits (place_in p m) vs) s
  walked keys m s i = walks is_walk (λ ks. keeps_walk x ks (keeps_exec p.functions p.calls.keep y)) keys m s i

module _ {kinds : ProgramKinds} {parameters : List FormalParameter} where
  pub for_in_built : {a b c d f g h k l o : Builder} {x array : List ℕ} {y : Statement} {exits : Exits} {variable : Variable} {position : Array} {number next leave body take begin j : ℕ} → Stands exits.next a → FindsVariable kinds parameters a b variable x → IsArrayOf kinds parameters position array
      → Opens b c number → Pushes c d (n.NextKey number exits.next) next → Pushes d f (n.LeaveWalk exits.next) leave → Builds kinds parameters f g body (Execute y (record { next = next; breaks = leave; continues = next }))
      → Pushes g h (n.TakeKey variable body) take → Closes h k number take → Pushes k l (n.Walk position next) begin → Pushes l o (n.Spend begin) j → Builds kinds parameters a o j (Execute (ForIn x array y) exits)
  for_in_built {x = x} {array = array} {y = y} {exits = exits} {position = position} {number = number} {next = next} {body = body} {take = take} here found is open_at next_at leave_at q take_at shut_at begin_at z =
      let is_open = opened open_at in
      let exit_in_c = longer exits.next is_open.grows (longer exits.next found.extends.grows here.below) in
      let to_next = placed {kinds = kinds} next_at exit_in_c in
      let to_leave = placed {kinds = kinds} leave_at (longer exits.next to_next.extends.grows exit_in_c) in
      let to_take = placed {kinds = kinds} take_at q.below in
      let shut = enclosed open_at (extends to_next.extends (extends to_leave.extends (extends q.extends to_take.extends))) shut_at in
      let to_begin = placed {kinds = kinds} begin_at (longer next shut.1 (longer next to_take.extends.grows (longer next q.extends.grows (longer next to_leave.extends.grows to_next.below)))) in
      stepped (Execute (ForIn x array y) exits) (λ functions at vs. keys_in array >>= λ keys. walk x keys (exec functions y) >>= leave_by exits at vs)
      (extends found.extends (extends shut.0.extends to_begin.extends)) z to_begin.below
      (λ p e m vs s i.
      let at_k = grows to_begin.extends.grows e in
      let at_h = grows shut.1 at_k in
      let at_g = grows to_take.extends.grows at_h in
      let at_f = grows q.extends.grows at_g in
      let at_d = grows to_leave.extends.grows at_f in
      let pieces : Pieces parameters p x y exits _ number next _ body take = record {
        next_is = λ m'. to_next.is p at_d m';
        leave_is = λ m'. to_leave.is p at_f m';
        take_is = λ m'. to_take.is p at_h m';
        head = stays number take (let f = to_take.fresh in omega (arith, f, q.below)) shut.0.head at_k;
        puts = λ m' w u v. found.is.puts p (grows is_open.grows (grows to_next.extends.grows at_d)) m' w u v;
        runs = λ m' ws u v. q.is p at_g m' ws u v;
      } in
      at_once (to_begin.is p e m) vs s
      ∙ first_same (keys_of_array position) (keys_in array) (λ keys. place_in p m next (walk_values keys ++ vs)) s (sym (gives_keys position array s (is.is p m s i)))
      ∙ later_in _ _ s m (keeps_keys_in array) i (λ keys u v. walked pieces vs keys m u v))
      (λ functions at vs s. for_in_then functions (leave_by exits at vs) s x array y)
