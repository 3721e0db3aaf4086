use Rattle.std.proofs.Common.{◌≡◌, ℕ, ◌<◌, Option, Some, None, unwrap_or, ap, ◌∙◌, arith, lit<}
use Rattle.std.specs.NonZero.{non_zero_usize_get}
use Rattle.std.specs.declared.num.NonZeroUsize.{NonZeroUsize}
use Rattle.std.specs.Option.{MatchOption}
use Rattle.lru.specs.LruCache.{lru_cache}
use Rattle.awk_functions.specs.declared.patterns.TheConstants.{CACHED}
use Rattle.awk_functions.proofs.patterns.Patterns.new.Goals as goal

-- a number above 0 is the one that was made of it
given_room : (n : ℕ) (made : Option NonZeroUsize) (other room : NonZeroUsize) → 0 < n → MatchOption made (n ≡ 0) (λ x. non_zero_usize_get x ≡ n)
    → room ≡ unwrap_or made other → non_zero_usize_get room ≡ n
given_room n None other room above at is = absurd (omega arith)
given_room n (Some x) other room above at is = ap non_zero_usize_get is ∙ at

pub returns-clause-nothing : goal.returns-clause-nothing
returns-clause-nothing c =
    let room : non_zero_usize_get c.unwrap_or-room.result ≡ CACHED = given_room CACHED c.new.result _ _ (lit< tt) c.new.ensures c.unwrap_or-room.ensures in
    record {
      fixed = c.new-2.ensures.items;
      newest = c.new-3.ensures.items;
      cached = c.in_ok-new.ensures ∙ ap (lru_cache _) room;
    }
