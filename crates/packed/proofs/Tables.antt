-- Zeros are the empty tables.
-- Assumes nothing.
use mathlib.Core.Path.{◌≡◌, refl}
use lib.ListN.{replicate}
use Rattle.session_table.specs.Table.{empty_tables}
use Rattle.packed.specs.Packed.{listeners_of, sessions_of, tables_of}

pub zeros-are-empty : tables_of (replicate 1280 0) ≡ empty_tables 16 16
unfolding listeners_of sessions_of
zeros-are-empty = refl
