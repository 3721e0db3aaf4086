-- The bytes of a text, by where they stand.
use Rattle.std.specs.Prelude.{ℕ, ◌≤◌, List, length, take, drop}
use Rattle.awk_value.specs.declared.bytes.Form.{Form}
use Rattle.awk_value.specs.declared.bytes.Form.TheVariants.{Short, Packed, Shared, Large}

abbrev pub bytes_of : Form → List ℕ
bytes_of (Short text) = text
bytes_of (Packed text) = text
bytes_of (Shared memory start end) = drop start (take end memory.value.items)
bytes_of (Large memory start alloc) = drop start memory.value.items

-- its places are such of its memory, and in order
abbrev pub IsWithin : Form → Type 0
IsWithin (Short text) = Unit {0}
IsWithin (Packed text) = Unit {0}
IsWithin (Shared memory start end) = (start ≤ end) × (end ≤ length memory.value.items)
IsWithin (Large memory start alloc) = start ≤ length memory.value.items
