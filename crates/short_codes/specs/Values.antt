-- Values ([12]): of a text, and of all trees of at most ten nodes, and whether a list is the table of these; and the digits of a value. Assumes nothing:
-- these are definitions.
use Rattle.std.specs.Prelude.{ℕ, zero, suc, ◌+◌, ◌-◌, ◌*◌, ◌/◌, ◌%◌, Bool, true, false, cond, ◌&&◌, List, [], ◌∷◌, ◌++◌, ltb, eqb}

-- a base-3 number with one digit more
unfoldable pub value_after : ℕ → ℕ → ℕ
value_after v c = v * 3 + (c - 48)

-- "A text read as a base-3 number is its value" ([12]), which is the paper's term: read on after a beginning of the value v
unfoldable pub value_from : ℕ → List ℕ → ℕ
value_from v [] = v
value_from v (c ∷ l) = value_from (value_after v c) l

unfoldable pub value : List ℕ → ℕ
value l = value_from 0 l

-- The values of the texts that have n digits more and use up w trees wanted, after a beginning of the value v: "what a leaf, stem and fork do to the number
-- of trees still wanted" ([7]), as `wanted_after` says it. With the digits in this order the values ascend.
unfoldable pub values_from : ℕ → ℕ → ℕ → List ℕ
values_from zero zero v = v ∷ []
values_from zero (suc w) v = []
values_from (suc n) zero v = []
values_from (suc n) (suc w) v = values_from n w (value_after v 48) ++ (values_from n (suc w) (value_after v 49) ++ values_from n (suc (suc w)) (value_after v 50))

-- the values of all trees of at most n nodes: a text has a digit for each node
unfoldable pub values_to : ℕ → List ℕ
values_to zero = []
values_to (suc n) = values_to n ++ values_from (suc n) 1 0

-- "A table holds the values of all trees of at most ten nodes, ascending, 1,374 of them" ([12]). The theorem `values_hold` says that this is the table, and
-- `one_table` that no other is.
unfoldable pub values : List ℕ
values = values_to 10

-- "The rule is shown over the table as a whole." ([12]): the test over the whole of a list, whether it is the table number by number. The theorems
-- `tested_values`, `tested_holds` and `tested_places` say what follows of it.
unfoldable pub each_same : List ℕ → List ℕ → Bool
each_same [] [] = true
each_same [] (y ∷ m) = false
each_same (x ∷ l) [] = false
each_same (x ∷ l) (y ∷ m) = eqb x y && each_same l m

unfoldable pub is_values : List ℕ → Bool
is_values l = each_same l values

-- the number v with n digits 0 after it in base 3, the least that n digits more can come to
unfoldable pub padded : ℕ → ℕ → ℕ
padded zero v = v
padded (suc n) v = padded n (v * 3)

-- The digits of a number in base 3; 0 has one. The first argument bounds the recursion.
unfoldable pub numeral_to : ℕ → ℕ → List ℕ
numeral_to zero v = []
numeral_to (suc k) v = cond (ltb v 3) ((48 + v) ∷ []) (numeral_to k (v / 3) ++ ((48 + v % 3) ∷ []))

unfoldable pub numeral : ℕ → List ℕ
numeral v = numeral_to (suc v) v
