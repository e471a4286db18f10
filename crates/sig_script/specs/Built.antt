-- What of a script isn't built: its shares.
use Rattle.std.specs.Prelude.{ℕ, ◌==◌, List, length, Option, codes}
use Rattle.sig_script.specs.Paths.{below, here_unless}
use Rattle.sig_script.specs.declared.types.Script.{Script}

abbrev pub unbuilt : Script → Option (List ℕ)
unbuilt script = below (codes "shares") (here_unless (length script.shares == 0))
