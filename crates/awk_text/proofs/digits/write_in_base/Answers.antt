use Rattle.std.proofs.Common.{◌≡◌, ℕ, Bool, List, length, drop, ap, arith}
use Rattle.std.proofs.lemmas.List.{drop_all}
use Rattle.std.specs.Fmt.{digits, digits_onto}
use Rattle.awk_text.proofs.digits.write_in_base.Goals as goal

digits_start : (base : ℕ) (upper : Bool) (n : ℕ) (buffer : List ℕ) → length buffer ≡ 64 → digits_onto 64 base upper n (drop 64 buffer) ≡ digits base upper n
unfolding digits
digits_start base upper n buffer size = ap (digits_onto 64 base upper n) (drop_all 64 buffer (omega arith))

pub loop-at-init : goal.loop-at-init
loop-at-init c = record {
  within = omega arith;
  size = c.requires.size;
  told = digits_start c.args.base c.args.upper c.args.number c.args.buffer.now c.requires.size;
}
