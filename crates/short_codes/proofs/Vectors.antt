-- Codes at the borders of the table, and the outcomes there. Assumes nothing.
use mathlib.Core.Path.{◌≡◌, refl}
use mathlib.Core.List.{[], ◌∷◌, ◌++◌, map}
use mathlib.Core.Option.{none, some}
use lib.ListN.{get_or, replicate}
use Rattle.calculus.specs.Tree.{Tree, leaf, stem, fork}
use Rattle.table.specs.Outcome.{whole_out, into_out}
use Rattle.table.specs.declared.Refusal.TheVariants.{Out}
use Rattle.table.specs.Refusal.{given, not_given, nothing}
use Rattle.ternary.specs.Text.{text}
use Rattle.short_codes.specs.Values.{value_after, value_from, value, values_from, values_to, values, numeral_to, numeral}
use Rattle.short_codes.specs.ShortCodes.{place_from, code_of, code_text}

-- the values of 0, 10, 110, 200, 222200000, 1111111110 and 2222100000
pub some_values : map value (text leaf ∷ text (stem leaf) ∷ text (stem (stem leaf)) ∷ text (fork leaf leaf) ∷ (50 ∷ 50 ∷ 50 ∷ 50 ∷ replicate 5 48) ∷ (replicate 9 49 ++ (48 ∷ []))
    ∷ (50 ∷ 50 ∷ 50 ∷ 50 ∷ 49 ∷ replicate 5 48) ∷ []) ≡ 0 ∷ 3 ∷ 12 ∷ 18 ∷ 19440 ∷ 29523 ∷ 58563 ∷ []
unfolding value value_from value_after text
some_values = refl

-- the trees of one to four nodes: 0, 10, 110, 200, 1110, 1200, 2010, 2100
pub first_codes : map code_of (leaf ∷ stem leaf ∷ stem (stem leaf) ∷ fork leaf leaf ∷ stem (stem (stem leaf)) ∷ stem (fork leaf leaf) ∷ fork leaf (stem leaf) ∷ fork (stem leaf) leaf ∷ [])
    ≡ some 0 ∷ some 1 ∷ some 2 ∷ some 3 ∷ some 4 ∷ some 5 ∷ some 6 ∷ some 7 ∷ []
unfolding code_of place_from value value_from value_after text values values_to values_from
first_codes = refl

-- 2222100000, of ten nodes, has the last code and the greatest value; with a stem more there is none
abbrev greatest : Tree
greatest = fork (fork (fork (fork (stem leaf) leaf) leaf) leaf) leaf

pub last_code : (get_or values 1373 0 ≡ 58563) × (code_of greatest ≡ some 1373) × (code_of (stem greatest) ≡ none)
unfolding code_of place_from value value_from value_after text values values_to values_from
last_code = (refl, refl, refl)

-- its text needs ten bytes; 1,374 is no code, whatever out is
pub last_text : (code_text 1373 (replicate 9 7) ≡ whole_out (not_given Out) [] [] (replicate 9 7))
    × (code_text 1373 (replicate 11 7) ≡ whole_out (given 10) [] [] (50 ∷ 50 ∷ 50 ∷ 50 ∷ 49 ∷ 48 ∷ 48 ∷ 48 ∷ 48 ∷ 48 ∷ 7 ∷ []))
    × (code_text 1374 [] ≡ whole_out nothing [] [] [])
unfolding code_text into_out numeral numeral_to values values_to values_from value_after
last_text = (refl, refl, refl)
