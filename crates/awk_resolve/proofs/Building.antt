-- What is built stays, and does what its part does.
use Rattle.std.proofs.Common.{◌≡◌, ◌≢◌, ◌⊎◌, inl, inr, ℕ, zero, suc, ◌<◌, Bool, true, false, List, [], ◌∷◌, ◌++◌, map, Some, slice_get, get_or, length, refl, sym, subst, ap, ◌∙◌, arith, append_assoc, append-nil, length-append, Result, Ok, Err, IfOk}
use Rattle.std.specs.Global.{Vec}
use Rattle.awk_value.specs.declared.value.Value.{Value}
use Rattle.awk_grammar.specs.Tree.{Expr}
use Rattle.awk_kinds.specs.Names.{IsFront}
use Rattle.awk_kinds.specs.definitions.Kinds.{FormalParameter}
use Rattle.awk_kinds.specs.definitions.Signatures.{ProgramKinds}
use Rattle.awk_semantics.specs.definitions.State.{State, Run, ◌>>=◌}
use Rattle.awk_semantics.specs.definitions.Semantics.{choose, eval}
use Rattle.awk_semantics.proofs.KeepsForms.{keeps_eval}
use Rattle.awk_resolve.specs.declared.builder.Builder.{Builder}
use Rattle.awk_resolve.specs.declared.node.Node.{Node}
use Rattle.awk_resolve.specs.support.Nodes.{Cont, made, AreBelow, IsOrdered, CallsFit, AllCallsFit}
use Rattle.awk_resolve.specs.support.Builds.{array_parameters_in, AreScalars, Grows, Pushes, Opens, Closes, Extends, IsIn, Program, Part, Evaluate, does, place_in, turns_in, Places, Builds, Stands}
use Rattle.awk_resolve.proofs.Calculus.{later_in}
use Rattle.awk_resolve.proofs.Listed.{placed_behind}

-- lists of nodes and of heads

pub get_pushed : {A : Type 0} (xs : List A) (x : A) (i : ℕ) (y : A) → slice_get (xs ++ x ∷ []) i ≡ Some y → (slice_get xs i ≡ Some y) ⊎ ((i ≡ length xs) × (y ≡ x))
get_pushed [] x zero y h = let e : x ≡ y = cc in inr (refl, sym e)
get_pushed [] x (suc i) y h = cc
get_pushed (z ∷ zs) x zero y h = inl h
get_pushed (z ∷ zs) x (suc i) y h = elim (get_pushed zs x i y h) [ inl e ↦ inl e | inr e ↦ inr (ap suc e.0, e.1) ]

ordered_pushed : (xs : List Node) (x : Node) → AreBelow (length xs) x → IsOrdered xs → IsOrdered (xs ++ x ∷ [])
ordered_pushed xs x last each i y h = elim (get_pushed xs x i y h) [ inl e ↦ each i y e | inr e ↦ subst (λ k. AreBelow k y) (sym e.0) (subst (AreBelow (length xs)) (sym e.1) last) ]

calls_pushed : (functions : List (List Bool)) (xs : List Node) (x : Node) → CallsFit functions x → AllCallsFit functions xs → AllCallsFit functions (xs ++ x ∷ [])
calls_pushed functions xs x last each i y h = elim (get_pushed xs x i y h) [ inl e ↦ each i y e | inr e ↦ subst (CallsFit functions) (sym e.1) last ]

-- the same functions
pub arrays_same : (a b : Builder) → b.array_parameters ≡ a.array_parameters → array_parameters_in b ≡ array_parameters_in a
arrays_same a b e = ap (λ (v : _). map (λ (w : Vec Bool). w.items) v.items) e

-- and the same nodes
calls_same : (a b : Builder) → b.array_parameters ≡ a.array_parameters → b.nodes ≡ a.nodes → AllCallsFit (array_parameters_in a) a.nodes.items → AllCallsFit (array_parameters_in b) b.nodes.items
calls_same a b functions nodes h = subst (λ k. AllCallsFit k b.nodes.items) (sym (arrays_same a b functions)) (subst (λ (v : _). AllCallsFit (array_parameters_in a) v.items) (sym nodes) h)

get_longer : (xs : List ℕ) (i : ℕ) → i < length xs → get_or (xs ++ 0 ∷ []) i 0 ≡ get_or xs i 0
get_longer [] i h = absurd (omega (arith, h))
get_longer (x ∷ xs) zero h = refl
get_longer (x ∷ xs) (suc i) h = get_longer xs i (omega (arith, h))

pub get_last : (xs : List ℕ) → get_or (xs ++ 0 ∷ []) (length xs) 0 ≡ 0
get_last [] = refl
get_last (x ∷ xs) = get_last xs

get_over : (xs : List ℕ) (i k : ℕ) → get_or xs i 0 ≡ suc k → i < length xs
get_over [] i k e = cc
get_over (x ∷ xs) zero k e = omega arith
get_over (x ∷ xs) (suc i) k e = let h = get_over xs i k e in omega (arith, h)

-- growing

front_same : {A : Type 0} {xs ys : List A} → ys ≡ xs → IsFront xs ys
front_same {xs = xs} e = ([], e ∙ sym (append-nil xs))

pub front_then : {A : Type 0} (xs : List A) {ys zs : List A} → IsFront xs ys → IsFront ys zs → IsFront xs zs
front_then xs f g = (f.0 ++ g.0, g.1 ∙ ap (λ l. l ++ g.0) f.1 ∙ append_assoc xs f.0 g.0)

pub grows : {a b c : Builder} → Grows a b → Grows b c → Grows a c
grows {a = a} p q = record {
  more = p.more ++ q.more;
  is = q.is ∙ ap (λ l. l ++ q.more) p.is ∙ append_assoc a.nodes.items p.more q.more;
  ordered = λ h. q.ordered (p.ordered h);
  functions = q.functions ∙ p.functions;
  calls = λ h. q.calls (p.calls h);
  heads = λ i k e. q.heads i k (p.heads i k e);
  names = front_then a.names p.names q.names;
  eres = front_then a.eres.items p.eres q.eres;
  scalars = λ h. q.scalars (p.scalars h);
}

pub extends : {a b c : Builder} → Extends a b → Extends b c → Extends a c
extends {a = a} {b = b} p q = record { grows = grows p.grows q.grows; kept = λ i h. (let l = p.long in q.kept i (omega (arith, h, l))) ∙ p.kept i h; long = (let l = p.long in let m = q.long in omega (arith, l, m)) }

pub same : {a : Builder} → Extends a a
same {a = a} = record {
  grows = record { more = []; is = sym (append-nil a.nodes.items); ordered = λ o. o; functions = refl; calls = λ h. h; heads = λ i k e. e; names = front_same refl; eres = front_same refl; scalars = λ h. h };
  kept = λ i l. refl;
  long = omega arith;
}

-- names and EREs alone are added
pub named : {a b : Builder} → b.nodes ≡ a.nodes → b.heads ≡ a.heads → IsFront a.names b.names → IsFront a.eres.items b.eres.items → b.array_parameters ≡ a.array_parameters → (AreScalars a.names → AreScalars b.names) → Extends a b
named {a = a} {b = b} nodes heads names eres functions scalars = record {
  grows = record {
    more = [];
    is = ap (λ (v : _). v.items) nodes ∙ sym (append-nil a.nodes.items);
    ordered = λ o. subst (λ (v : _). IsOrdered v.items) (sym nodes) o;
    functions = functions;
    calls = calls_same a b functions nodes;
    heads = λ i k e. ap (λ (h : _). get_or h.items i 0) heads ∙ e;
    names = names;
    eres = eres;
    scalars = scalars;
  };
  kept = λ i h. ap (λ (l : _). get_or l.items i 0) heads;
  long = (let e = ap (λ (h : _). length h.items) heads in omega (arith, e));
}

pub longer : {a b : Builder} (i : ℕ) → Grows a b → i < length a.nodes.items → i < length b.nodes.items
longer {a = a} i g h = subst (λ l. i < length l) (sym g.is) (omega (arith, h, length-append a.nodes.items g.more))

pub still : {a b : Builder} {i : ℕ} → Extends a b → Stands i a → Stands i b
still {i = i} g h = record { below = longer i g.grows h.below; pos = h.pos }

-- what is built is a place that others may go on at
pub stands : {kinds : ProgramKinds} {parameters : List FormalParameter} {a b : Builder} {i : ℕ} {m : Part} → Builds kinds parameters a b i m → Stands i b
stands p = record { below = p.below; pos = p.pos }

-- a node that is pushed
pub placed : {kinds : ProgramKinds} {a b : Builder} {x : Node} {i : ℕ} → Pushes a b x i → AreBelow (length a.nodes.items) x → Places kinds a b i x
placed {a = a} {b = b} {x = x} {i = i} p below = record {
  extends = record {
    grows = record {
      more = x ∷ [];
      is = p.nodes;
      ordered = λ h. subst IsOrdered (sym p.nodes) (ordered_pushed a.nodes.items x below h);
      functions = p.same.functions;
      calls = λ h. subst (λ k. AllCallsFit k b.nodes.items) (sym (arrays_same a b p.same.functions)) (subst (AllCallsFit (array_parameters_in a)) (sym p.nodes) (calls_pushed (array_parameters_in a) a.nodes.items x p.calls h));
      heads = λ j k e. ap (λ (h : _). get_or h.items j 0) p.heads ∙ e;
      names = front_same p.same.names;
      eres = front_same (ap (λ (v : _). v.items) p.same.eres);
      scalars = λ h. subst AreScalars (sym p.same.names) h;
    };
    kept = λ j h. ap (λ (h : _). get_or h.items j 0) p.heads;
    long = (let e = ap (λ (h : _). length h.items) p.heads in omega (arith, e));
  };
  below = subst (λ l. i < length l) (sym p.nodes) (omega (arith, p.last, length-append a.nodes.items (x ∷ [])));
  fresh = p.last;
  is = λ q h m.
      let nodes : q.all.nodes.items ≡ a.nodes.items ++ x ∷ h.more = h.is ∙ ap (λ l. l ++ h.more) p.nodes ∙ append_assoc a.nodes.items (x ∷ []) h.more in
      subst (λ k. place_in q m k ≡ made q.tables q.functions (turns_in q m) (place_in q m) x) (sym p.last)
      (placed_behind q.tables q.functions q.all.heads.items q.all.nodes.items m a.nodes.items x h.more nodes below);
}

-- equal continuations do the same
pub at_once : {f g : Cont} → f ≡ g → (vs : List Value) (s : State) → f vs s ≡ g vs s
at_once e vs s = ap (λ (c : Cont). c vs s) e

pub ok_map : {A E : Type 0} (r : Result A E) {P Q : A → Type 0} → ((a : A) → P a → Q a) → IfOk r P → IfOk r Q
ok_map (Ok a) f p = f a p
ok_map (Err e) f p = tt

-- a node by itself
pub alone : {kinds : ProgramKinds} {parameters : List FormalParameter} {a b : Builder} {x : Node} {i k : ℕ} (m : Part) → Places kinds a b i x → k < length a.nodes.items
    → ((p : Program kinds) → Grows b p.all → (again at : ℕ → Cont) (n : ℕ) (vs : List Value) (s : State) → IsIn p.tables parameters n s → made p.tables p.functions again at x vs s ≡ does m p.functions at vs s)
    → Builds kinds parameters a b i m
alone m p h e = record {
  extends = p.extends;
  below = p.below;
  pos = (let f = p.fresh in omega (arith, h, f));
  is = λ q g n vs s i. at_once (p.is q g n) vs s ∙ e q g (turns_in q n) (place_in q n) n vs s i;
}

-- what is built behind something else
pub behind : {kinds : ProgramKinds} {parameters : List FormalParameter} {a b c : Builder} {i : ℕ} {m : Part} → Extends a b → Builds kinds parameters b c i m → Builds kinds parameters a c i m
behind g q = record { extends = extends g q.extends; below = q.below; pos = q.pos; is = q.is }

-- an expression, and then what its value goes to
pub first_then : {kinds : ProgramKinds} {parameters : List FormalParameter} {a b c : Builder} {i j : ℕ} (x : Expr) (m : Part) (rest : (p : Program kinds) → (ℕ → Cont) → Cont)
    → Extends a b → Builds kinds parameters b c i (Evaluate x j)
    → ((p : Program kinds) → Grows c p.all → (n : ℕ) (v : Value) (vs : List Value) (t : State) → IsIn p.tables parameters n t → place_in p n j (v ∷ vs) t ≡ rest p (place_in p n) (v ∷ vs) t)
    → ((p : Program kinds) → Grows c p.all → (at : ℕ → Cont) (n : ℕ) (vs : List Value) (s : State) → IsIn p.tables parameters n s → (eval p.functions x >>= λ v. rest p at (v ∷ vs)) s ≡ does m p.functions at vs s)
    → Builds kinds parameters a c i m
first_then x m rest g q e e' = record {
  extends = extends g q.extends;
  below = q.below;
  pos = q.pos;
  is = λ p h n vs s i.
      q.is p h n vs s i
      ∙ later_in _ _ s n (keeps_eval p.functions p.calls.keep x) i (λ v t k. e p h n v vs t k)
      ∙ e' p h (place_in p n) n vs s i;
}

-- what is chosen by a value
pub chosen : {A B : Type 0} (b : Bool) (here other : Run A) (f : A → Run B) (u w : Run B) (s : State) → u s ≡ (here >>= f) s → w s ≡ (other >>= f) s → choose b u w s ≡ (choose b here other >>= f) s
chosen true here other f u w s p q = p
chosen false here other f u w s p q = q

pub both : {A : Type 0} (b : Bool) (x y u w : Run A) (s : State) → x s ≡ u s → y s ≡ w s → choose b x y s ≡ choose b u w s
both true x y u w s p q = p
both false x y u w s p q = q

-- loops

decide : (i j : ℕ) → (i ≡ j) ⊎ (i ≢ j)
decide zero zero = inl refl
decide zero (suc j) = inr (λ e. omega (arith, e))
decide (suc i) zero = inr (λ e. omega (arith, e))
decide (suc i) (suc j) = elim (decide i j) [ inl e ↦ inl (ap suc e) | inr e ↦ inr (λ h. e (omega (arith, h))) ]

pub opened : {a b : Builder} {number : ℕ} → Opens a b number → Extends a b
opened {a = a} {b = b} p = record {
  grows = record {
    more = [];
    is = ap (λ (v : _). v.items) p.nodes ∙ sym (append-nil a.nodes.items);
    ordered = λ o. subst (λ (v : _). IsOrdered v.items) (sym p.nodes) o;
    functions = p.same.functions;
    calls = calls_same a b p.same.functions p.nodes;
    heads = λ i k e. ap (λ l. get_or l i 0) p.heads ∙ get_longer a.heads.items i (get_over a.heads.items i k e) ∙ e;
    names = front_same p.same.names;
    eres = front_same (ap (λ (v : _). v.items) p.same.eres);
    scalars = λ h. subst AreScalars (sym p.same.names) h;
  };
  kept = λ i h. ap (λ l. get_or l i 0) p.heads ∙ get_longer a.heads.items i h;
  long = (let e = ap length p.heads in omega (arith, e, length-append a.heads.items (0 ∷ [])));
}

pub closed : {e f : Builder} {number body : ℕ} → Closes e f number body → get_or e.heads.items number 0 ≡ 0 → Grows e f
closed {e = e} {f = f} {number = number} p unset = record {
  more = [];
  is = ap (λ (v : _). v.items) p.nodes ∙ sym (append-nil e.nodes.items);
  ordered = λ o. subst (λ (v : _). IsOrdered v.items) (sym p.nodes) o;
  functions = p.same.functions;
  calls = calls_same e f p.same.functions p.nodes;
  heads = λ i k h. elim (decide i number) [ inl x ↦ (let y = sym unset ∙ ap (λ j. get_or e.heads.items j 0) (sym x) ∙ h in absurd (omega (arith, y))) | inr x ↦ p.others i x ∙ h ];
  names = front_same p.same.names;
  eres = front_same (ap (λ (v : _). v.items) p.same.eres);
  scalars = λ h. subst AreScalars (sym p.same.names) h;
}

-- a loop that is closed keeps its body
pub stays : {f later : Builder} (number body : ℕ) → 0 < body → get_or f.heads.items number 0 ≡ body → Grows f later → get_or later.heads.items number 0 ≡ body
stays number zero h e g = absurd (omega (arith, h))
stays number (suc k) h e g = g.heads number k e

-- a loop's parts between its opening and its closing
pub record Encloses (a f : Builder) (number body : ℕ) : Type 0 where
  pub extends : Extends a f
  pub head : get_or f.heads.items number 0 ≡ body

pub enclosed : {a b e f : Builder} {number body : ℕ} → Opens a b number → Extends b e → Closes e f number body → Encloses a f number body × Grows e f
enclosed {a = a} {b = b} {e = e} {f = f} {number = number} p middle w =
    let first = opened p in
    let is_open : number < length b.heads.items = (let k = ap length p.heads in let l = p.last in omega (arith, k, l, length-append a.heads.items (0 ∷ []))) in
    let unset : get_or e.heads.items number 0 ≡ 0 = middle.kept number is_open ∙ ap (λ l. get_or l number 0) p.heads ∙ ap (λ k. get_or (a.heads.items ++ 0 ∷ []) k 0) p.last ∙ get_last a.heads.items in
    let shut = closed w unset in
    let all : Extends a f = record {
      grows = grows first.grows (grows middle.grows shut);
      kept = λ i h. w.others i (λ k. (let l = p.last in omega (arith, h, k, l))) ∙ middle.kept i (let l = first.long in omega (arith, h, l)) ∙ first.kept i h;
      long = (let k = first.long in let l = middle.long in let m = w.long in omega (arith, k, l, m));
    } in
    (record { extends = all; head = w.here }, shut)
