-- What the operations on weights answer, with the whole table where they make nodes ([9]). There is no stack. Assumes nothing: these are definitions.
use Rattle.std.specs.Prelude.{ℕ, true, cond, ◌&&◌, List, [], ◌∷◌, ltb, Result, Ok, Err}
use Rattle.std.specs.declared.cmp.Ordering.{Ordering}
use Rattle.std.specs.declared.cmp.Ordering.TheVariants.{Less, Equal, Greater}
use Rattle.std.proofs.Math.Option.{Option, none, some}
use Rattle.table.specs.Nodes.{tree_at}
use Rattle.table.specs.Outcome.{Outcome, whole, at_entry, unless, laid}
use Rattle.table.specs.Refusal.{number, not_made}
use Rattle.table.specs.declared.Refusal.{Refusal}
use Rattle.table.specs.declared.Refusal.TheVariants.{Node, Weight}
use Rattle.table.specs.declared.Made.{Made}
use Rattle.weights.specs.Digits.{list_tree, grams_of, gram_digits, digits_of_weight, sum_digits, compare_digits}

-- "Checks: 14, not a weight or a sum above the top [..]; then 8." ([9]): the list of digits laid out, where there are digits. "New nodes are wanted in the
-- order in which Read would take them from the list's text": the theorem `weight_as_read`.
unfoldable pub laid_digits : List ℕ → ℕ → Option (List ℕ) → Outcome (Result Made Refusal)
laid_digits w u none = whole (not_made Weight) w []
laid_digits w u (some l) = laid w u [] (list_tree l)

-- 1 and 2 before that, in the table w with u nodes in use
unfoldable pub checked_digits : List ℕ → ℕ → Option (List ℕ) → Outcome (Result Made Refusal)
checked_digits w u o = unless (at_entry true w u []) (λ e. whole (not_made e) w []) (laid_digits w u o)

-- "The library turns grams to trees and back" ([9]): the weight of g grams. Grams are no node number, so that 14 comes after 1 and 2.
unfoldable pub weight : List ℕ → ℕ → ℕ → Outcome (Result Made Refusal)
weight w u g = checked_digits w u (gram_digits g)

-- "adds two weights [..] on the trees" ([9]): the sum of those at the nodes a and b; "14 [..] after 3"
unfoldable pub add_weights : List ℕ → ℕ → ℕ → ℕ → Outcome (Result Made Refusal)
add_weights w u a b =
    unless (at_entry true w u []) (λ e. whole (not_made e) w [])
    (cond (ltb a u && ltb b u) (laid_digits w u (sum_digits (digits_of_weight (tree_at w a)) (digits_of_weight (tree_at w b)))) (whole (not_made Node) w []))

-- the grams of a weight's digits, or 14
unfoldable pub weigh : Option (List ℕ) → Result ℕ Refusal
weigh none = Err Weight
weigh (some l) = Ok (grams_of l)

-- "and back": the grams of the weight at node v
unfoldable pub grams : List ℕ → ℕ → ℕ → Result ℕ Refusal
grams w u v = unless (at_entry true w u []) Err (cond (ltb v u) (weigh (digits_of_weight (tree_at w v))) (Err Node))

-- the digits of two weights compared, or 14
unfoldable pub compare_both : Option (List ℕ) → Option (List ℕ) → Result Ordering Refusal
compare_both none m = Err Weight
compare_both (some l) none = Err Weight
compare_both (some l) (some m) = Ok (compare_digits l m)

-- "and compares them on the trees" ([9]): the weight at node a beside that at node b
unfoldable pub compare_weights : List ℕ → ℕ → ℕ → ℕ → Result Ordering Refusal
compare_weights w u a b =
    unless (at_entry true w u []) Err
    (cond (ltb a u && ltb b u) (compare_both (digits_of_weight (tree_at w a)) (digits_of_weight (tree_at w b))) (Err Node))

-- the numbers of the answers: the refusal and the grams; the refusal and 0 for less, 1 for equal, 2 for greater
unfoldable pub weighed_numbers : Result ℕ Refusal → List ℕ
weighed_numbers (Ok g) = 0 ∷ g ∷ []
weighed_numbers (Err e) = number e ∷ 0 ∷ []

unfoldable pub ordered_numbers : Result Ordering Refusal → List ℕ
ordered_numbers (Ok Less) = 0 ∷ 0 ∷ []
ordered_numbers (Ok Equal) = 0 ∷ 1 ∷ []
ordered_numbers (Ok Greater) = 0 ∷ 2 ∷ []
ordered_numbers (Err e) = number e ∷ 0 ∷ []
