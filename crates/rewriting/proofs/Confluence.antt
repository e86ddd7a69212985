-- Ways on paper one after another and in the parts of a term, and that two from one term come together again. Assumes nothing.
use mathlib.Core.Path.{◌≡◌, refl, sym, ◌∙◌}
use mathlib.Core.List.{List, [], ◌∷◌, ◌++◌}
use Rattle.calculus.specs.Abstraction.{Combination, app}
use Rattle.calculus.specs.Equations.{Equation, of_drop, of_spread, of_triage, Equal, same, turned, joined, inside, equated}
use Rattle.rewriting.specs.Ways.{Reduces, at_root, in_function, in_argument, Way, arrived, goes_by, Irreducible}
use Rattle.rewriting.specs.Claims.{Reaches}
use Rattle.rewriting.proofs.Parallel.{Parallel, leaf_stays, var_stays, both, drops, spreads, triages, one_parallel, Meets, mirrored, diamond}

pub way_one : {e : Equation} {u v : Combination} → Reduces e u v → Way u (e ∷ []) v
way_one r = goes_by r arrived

pub way_joined : {es fs : List Equation} {u v w : Combination} → Way u es v → Way v fs w → Way u (es ++ fs) w
way_joined arrived q = q
way_joined (goes_by r p) q = goes_by r (way_joined p q)

pub way_function : {es : List Equation} {u v t : Combination} → Way u es v → Way (app u t) es (app v t)
way_function arrived = arrived
way_function (goes_by r p) = goes_by (in_function r) (way_function p)

pub way_argument : {es : List Equation} {u v t : Combination} → Way u es v → Way (app t u) es (app t v)
way_argument arrived = arrived
way_argument (goes_by r p) = goes_by (in_argument r) (way_argument p)

reaches : {es : List Equation} {u v : Combination} → Way u es v → Reaches u v
reaches {es} p = record { equations = es; way = p }

pub reaches_on : {u v w : Combination} → Reaches u v → Reaches v w → Reaches u w
reaches_on p q = reaches (way_joined p.way q.way)

reaches_both : {u v s t : Combination} → Reaches u v → Reaches s t → Reaches (app u s) (app v t)
reaches_both p q = reaches (way_joined (way_function p.way) (way_argument q.way))

-- equations used at the same time can be used one after another, outer ones first
pub parallel_reaches : {u v : Combination} → Parallel u v → Reaches u v
parallel_reaches leaf_stays = reaches arrived
parallel_reaches var_stays = reaches arrived
parallel_reaches (both a b) = reaches_both (parallel_reaches a) (parallel_reaches b)
parallel_reaches (drops y) = reaches_on (reaches (way_one (at_root of_drop))) (parallel_reaches y)
parallel_reaches (spreads x y z) =
    let z = parallel_reaches z in
    reaches_on (reaches (way_one (at_root of_spread))) (reaches_both (reaches_both (parallel_reaches y) z) (reaches_both (parallel_reaches x) z))
parallel_reaches (triages w x z) =
    reaches_on (reaches (way_one (at_root of_triage))) (reaches_both (reaches_both (parallel_reaches z) (parallel_reaches w)) (parallel_reaches x))

-- one step of simultaneous reduction beside a way (001, lemma 7.1)
strip : {es : List Equation} {u v w : Combination} → Parallel u v → Way u es w → Meets Reaches Parallel v w
strip {v = v} a arrived = record { at = v; left = reaches arrived; right = a }
strip a (goes_by r p) =
    let m = diamond a (one_parallel r) in
    let s = strip m.right p in
    record { at = s.at; left = reaches_on (parallel_reaches m.left) s.left; right = s.right }

-- "Reduction of tree calculus is confluent." (001, theorem 7.8)
pub confluent : {es fs : List Equation} {u v w : Combination} → Way u es v → Way u fs w → Meets Reaches Reaches v w
confluent {w = w} arrived q = record { at = w; left = reaches q; right = reaches arrived }
confluent (goes_by r p) q =
    let s = strip (one_parallel r) q in
    let j = confluent p s.left.way in
    record { at = j.at; left = j.left; right = reaches_on (parallel_reaches s.right) j.right }

-- from an irreducible term a way leads to no other
pub stays_there : {es : List Equation} {u v : Combination} → Irreducible u → Way u es v → v ≡ u
stays_there h arrived = refl
stays_there h (goes_by r p) = absurd (h _ _ r)

-- "If → is a confluent reduction relation then each term has at most one normal form." (001, theorem 7.6)
pub one_end : {es fs : List Equation} {u v w : Combination} → Way u es v → Irreducible v → Way u fs w → Irreducible w → v ≡ w
one_end p h q k = let j = confluent p q in sym (stays_there h j.left.way) ∙ stays_there k j.right.way

-- Each way is by the equations; and terms that are equal by them, used in either direction, have ways that come together.
reduces_equal : {e : Equation} {u v : Combination} → Reduces e u v → Equal u v
reduces_equal (at_root q) = equated q
reduces_equal (in_function r) = inside (reduces_equal r) same
reduces_equal (in_argument r) = inside same (reduces_equal r)

pub way_equal : {es : List Equation} {u v : Combination} → Way u es v → Equal u v
way_equal arrived = same
way_equal (goes_by r p) = joined (reduces_equal r) (way_equal p)

pub equal_meets : {u v : Combination} → Equal u v → Meets Reaches Reaches u v
equal_meets {u} same = record { at = u; left = reaches arrived; right = reaches arrived }
equal_meets (turned q) = mirrored (equal_meets q)
equal_meets (joined p q) =
    let i = equal_meets p in
    let j = equal_meets q in
    let k = confluent i.right.way j.left.way in
    record { at = k.at; left = reaches_on i.left k.left; right = reaches_on j.right k.right }
equal_meets (inside p q) =
    let i = equal_meets p in
    let j = equal_meets q in
    record { at = app i.at j.at; left = reaches_both i.left j.left; right = reaches_both i.right j.right }
equal_meets {v = v} (equated q) = record { at = v; left = reaches (way_one (at_root q)); right = reaches arrived }
