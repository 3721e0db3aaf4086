use Rattle.std.proofs.Common.{◌≡◌, ◌∙◌, ◌++◌, ap, List, ℕ, take, get_or, min, replicate, w64}
use Rattle.std.specs.Int.{to_le_bytes}
use borrow.Rule.Slice.PartMut.{put_mid}
use Rattle.awk_value.specs.support.Texts.{short_text, room}
use Rattle.awk_value.proofs.short_text.ShortText.bytes.Goals as goal

pub returns-clause-text : goal.returns-clause-text
unfolding short_text room
returns-clause-text c =
    let a : c.copy_from_slice.new.self ≡ to_le_bytes w64 c.args.self.now.first = c.copy_from_slice.ensures.after ∙ c.to_le_bytes.ensures in
    let b : c.copy_from_slice-2.new.self ≡ to_le_bytes w64 c.args.self.now.second = c.copy_from_slice-2.ensures.after ∙ c.to_le_bytes-2.ensures in
    let d : c.copy_from_slice-3.new.self ≡ to_le_bytes w64 c.args.self.now.third = c.copy_from_slice-3.ensures.after ∙ c.to_le_bytes-3.ensures in
    let all : List ℕ → List ℕ → List ℕ → List ℕ = λ x y z. put_mid 16 8 (put_mid 8 8 (x ++ replicate 16 0) y) z in
    ap (λ k. take k (all c.copy_from_slice.new.self c.copy_from_slice-2.new.self c.copy_from_slice-3.new.self)) c.min-len.ensures
    ∙ (λ i. take (min 23 (get_or (all (a i) (b i) (d i)) 23 0)) (all (a i) (b i) (d i)))
