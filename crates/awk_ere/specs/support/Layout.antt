-- How the transition table is laid out. A state is named by the place where its entries begin, and an entry is the name
-- of the state that it leads to, or 0 where it is unknown.
use Rattle.std.specs.Prelude.{ℕ, suc, ◌*◌, ◌^◌, nat_eq, if◌then◌else◌}
pub use Rattle.awk_ere.specs.definitions.Tree.{byte_count}

-- the entry for the end of the text, behind those for the bytes
abbrev pub end_of_text : ℕ
end_of_text = byte_count

-- how many entries a state has
abbrev pub stride : ℕ
stride = suc end_of_text

-- the state at the start of the text. It is the first one, and has entries before it, so that no state is named 0.
abbrev pub start_state : ℕ
start_state = stride

-- the dead state: no match has begun, behind the start of the text. It is the second one.
abbrev pub dead_state : ℕ
dead_state = 2 * stride

-- the state at a place before which no match has begun
abbrev pub first_state : ℕ → ℕ
first_state k = if nat_eq k 0 then start_state else dead_state

-- what is added to an entry where a match ends before the byte: the highest of 32 bits
abbrev pub match_flag : ℕ
match_flag = 2 ^ 31

-- the names of fewer states than this are below the match flag
abbrev pub state_bound : ℕ
state_bound = 1000000

-- the states that are always there: that at the start of the text, and the dead one
abbrev pub fixed_states : ℕ
fixed_states = 2

-- there is room for one more
abbrev pub least_limit : ℕ
least_limit = suc fixed_states
