-- A mask for the bytes behind a text: no byte counts, and then every byte does. What stands from max_value - k on keeps the bytes
-- behind a text of k.
use Rattle.std.specs.Prelude.{ℕ, ◌*◌, List, ◌++◌, replicate}
use Rattle.rules.specs.Sizes.{max_value}

-- twice what a value has room for
abbrev pub mask_width : ℕ
mask_width = 2 * max_value

unfoldable pub mask_bytes : List ℕ
mask_bytes = replicate max_value 0 ++ replicate max_value 255
