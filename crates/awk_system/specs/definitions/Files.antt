-- How a file is opened to be written.
use Rattle.std.specs.Prelude.{true}
use Rattle.std.specs.declared.fs.options.OpenOptions.{OpenOptions}
use Rattle.std.specs.Fs.{new_options, with_write, with_append, with_truncate, with_create}
use Rattle.awk_world.specs.declared.world.Mode.{Mode}
use Rattle.awk_world.specs.declared.world.Mode.TheVariants.{Truncate, Append}

-- a file that isn't there is made; one that is there is emptied, or what is written goes behind what it holds
abbrev pub options_for : Mode → OpenOptions
options_for Truncate = with_create (with_truncate (with_write new_options true) true) true
options_for Append = with_create (with_append new_options true) true
