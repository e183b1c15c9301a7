-- Each arm's row is the table's.
use mathlib.Core.Path.{refl}
use mathlib.Core.List.{[]}
use native.Mathlib.Omega.{arith}
use Rattle.utf8.specs.Text.{none, then, rest_of}
use Rattle.utf8.proofs.Pieces.{one_byte_lem, piece_of_row, table}
use Rattle.utf8.proofs.next.Goals as goal

pub returns-in-224 : goal.returns-in-224
unfolding rest_of
returns-in-224 c = piece_of_row 0xE0 0xE0 _ (then _) _ c.by_row.ensures (omega arith) (omega arith) (λ x b. search table depth 12 fits 4000)

pub returns-in-237 : goal.returns-in-237
unfolding rest_of
returns-in-237 c = piece_of_row 0xED 0xED _ (then _) _ c.by_row-in-237.ensures (omega arith) (omega arith) (λ x b. search table depth 12 fits 4000)

pub returns-in-240 : goal.returns-in-240
unfolding rest_of
returns-in-240 c = piece_of_row 0xF0 0xF0 _ (then _) _ c.by_row-in-240.ensures (omega arith) (omega arith) (λ x b. search table depth 12 fits 4000)

pub returns-in-244 : goal.returns-in-244
unfolding rest_of
returns-in-244 c = piece_of_row 0xF4 0xF4 _ (then _) _ c.by_row-in-244.ensures (omega arith) (omega arith) (λ x b. search table depth 12 fits 4000)

pub returns-in-0-to-127 : goal.returns-in-0-to-127
unfolding rest_of
returns-in-0-to-127 c = piece_of_row 0x00 0x7F _ (then []) _ (one_byte_lem _) (omega arith) (omega arith) (λ x b. search table depth 12 fits 4000)

pub returns-in-194-to-223 : goal.returns-in-194-to-223
unfolding rest_of
returns-in-194-to-223 c = piece_of_row 0xC2 0xDF _ (then _) _ c.by_row-in-194-to-223.ensures (omega arith) (omega arith) (λ x b. search table depth 12 fits 4000)

pub returns-in-225-to-236 : goal.returns-in-225-to-236
unfolding rest_of
returns-in-225-to-236 c = piece_of_row 0xE1 0xEC _ (then _) _ c.by_row-in-225-to-236.ensures (omega arith) (omega arith) (λ x b. search table depth 12 fits 4000)

pub returns-in-238-to-239 : goal.returns-in-238-to-239
unfolding rest_of
returns-in-238-to-239 c = piece_of_row 0xEE 0xEF _ (then _) _ c.by_row-in-238-to-239.ensures (omega arith) (omega arith) (λ x b. search table depth 12 fits 4000)

pub returns-in-241-to-243 : goal.returns-in-241-to-243
unfolding rest_of
returns-in-241-to-243 c = piece_of_row 0xF1 0xF3 _ (then _) _ c.by_row-in-241-to-243.ensures (omega arith) (omega arith) (λ x b. search table depth 12 fits 4000)

pub returns-in_default : goal.returns-in_default
unfolding rest_of
returns-in_default c = piece_of_row 0x80 0xC1 _ none _ refl (omega arith) (omega arith) (λ x b. search table depth 12 fits 4000)

pub returns-in_default-2 : goal.returns-in_default-2
unfolding rest_of
returns-in_default-2 c = piece_of_row 0xF5 0xFF _ none _ refl (omega arith) (omega (arith, c.type_inv.b 0)) (λ x b. search table depth 12 fits 4000)
