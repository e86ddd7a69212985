-- Laws of phrases, and of the loop over the operands of an expression. Assumes nothing.
use Prim.Native.Nat.{ℕ, ◌+◌, ◌*◌, ◌≤◌, ◌<◌}
use mathlib.Core.Path.{◌≡◌, refl, sym, ap, subst, ◌∙◌}
use mathlib.Core.List.{List, ◌++◌, append_assoc, append-nil}
use mathlib.Core.Option.{none}
use native.Mathlib.Omega.{arith}
use lib.ListN.{length, take, drop, length-drop, length-append}
use lib.Seq.{length-take-le}
use Rattle.grammar.specs.Expression.{Expression}
use Rattle.grammar.specs.Reader.{Read, nothing, read, empty, follow, parse, more, operand}
use Rattle.grammar.specs.Words.{tokens}
use Rattle.grammar.specs.Postfix.{postfix}
use Rattle.grammar.proofs.Sound.{sound, sound_operand}
use Rattle.grammar.proofs.Size.{size}
use Rattle.grammar.proofs.Places.{tokens_length}
use Rattle.operators.specs.Code.{Begun, applied, count, symbols, symbols_of, flat, noted_by, AfterAsks, Goes, Stepped, Afters}
use Rattle.operators.specs.declared.Waiting.{Waiting}
use Rattle.operators.specs.declared.Step.{Step}
use Rattle.operators.specs.declared.Step.TheVariants as step
use Rattle.parser.specs.Code.{Asks, Phrased, Tells}
use Rattle.std.specs.Prelude as code
use Rattle.parser.specs.declared.Phrase.{Phrase}

module _ (x : Read) (ws : List ℕ) (w : ℕ) (post m : List ℕ) (r : code.Option Phrase) where
  pub told_phrase : Tells x ws w post m r → {p : Phrase} → r ≡ code.Some p → Phrased x ws w post m p.next p.end
  unfolding Tells
  told_phrase h e = subst (Tells x ws w post m) e h

  pub told_nothing : Tells x ws w post m r → r ≡ code.None → x ≡ nothing
  unfolding Tells
  told_nothing h e = subst (Tells x ws w post m) e h

pub tell : {x : Read} {ws : List ℕ} {w : ℕ} {post m : List ℕ} {n e : ℕ} → Phrased x ws w post m n e → Tells x ws w post m (code.Some (record { next = n; end = e }))
unfolding Tells
tell h = h

pub tell_nothing : (x : Read) (ws : List ℕ) (w : ℕ) (post m : List ℕ) (r : code.Option Phrase) → x ≡ nothing → r ≡ code.None → Tells x ws w post m r
unfolding Tells
tell_nothing x ws w post m r h e = subst (Tells x ws w post m) (sym e) h

module _ (d : ℕ) (Γ ws : List ℕ) (at next : ℕ) (e : Expression) (h : at ≤ length ws) (l : next ≤ length ws) where
  pub operand_took : operand d Γ (tokens (drop at ws)) ≡ read e (tokens (drop next ws)) → length (postfix e) + 1 + 2 * at ≤ 2 * next
  operand_took q =
      omega (arith, size (sound_operand d Γ _ e _ q), tokens_length (drop at ws), tokens_length (drop next ws), length-drop at ws, length-drop next ws)

  pub parse_took : parse d Γ empty (tokens (drop at ws)) ≡ read e (tokens (drop next ws)) → length (postfix e) + 1 + 2 * at ≤ 2 * next
  parse_took q =
      omega (arith, size (sound d Γ _ e _ q).0, tokens_length (drop at ws), tokens_length (drop next ws), length-drop at ws, length-drop next ws)

-- what the loop of an expression keeps
pub record Carried (ws : List ℕ) (at d : ℕ) (names₀ : List ℕ) (k : ℕ) (post₀ : List ℕ) (w : ℕ) (names post : List ℕ) (W : Waiting) : Type 0 where
  pub goes : Goes d (drop k names₀) (parse d (drop k names₀) empty (tokens (drop at ws))) (take w post₀) ws post W
  pub later : at ≤ W.at
  pub same : drop k names ≡ drop k names₀
  pub names_length : length names ≡ length names₀
  pub post_length : length post ≡ length post₀

module _ (ws : List ℕ) (at d : ℕ) (names₀ : List ℕ) (k : ℕ) (post₀ : List ℕ) (w : ℕ) (q : Asks ws at names₀ k post₀ w) where
  pub carried_start : (W : Waiting) → Begun ws at w 0 0 0 W → Carried ws at d names₀ k post₀ w names₀ post₀ W
  unfolding applied count symbols symbols_of
  carried_start W b = subst (Carried ws at d names₀ k post₀ w names₀ post₀) (sym b.is) (record {
    goes = record {
      p = noted_by b.nots empty;
      f = none;
      counts = record { implies = refl; ors = refl; ands = refl; nots = omega arith; apps = refl };
      within = b.bangs.within;
      room = omega (arith, q.room);
      leads = b.bangs.leads d (drop k names₀) empty;
      front = sym (append-nil (take w post₀));
    };
    later = omega arith;
    same = refl;
    names_length = refl;
    post_length = refl;
  })

  module _ (names post : List ℕ) (W : Waiting) (v : Carried ws at d names₀ k post₀ w names post W) where
    pub carried_nothing : operand d (drop k names) (tokens (drop W.at ws)) ≡ nothing → parse d (drop k names₀) empty (tokens (drop at ws)) ≡ nothing
    unfolding follow
    carried_nothing h = v.goes.leads ∙ ap (λ (z : Read). follow z (λ a s. more d (drop k names₀) v.goes.p (applied v.goes.f a) s)) (subst (λ (Γ : List ℕ). operand d Γ (tokens (drop W.at ws)) ≡ nothing) v.same h)

    module _ (m : List ℕ) (next e : ℕ) (o : Phrased (operand d (drop k names) (tokens (drop W.at ws))) ws W.end post m next e) where
      taken : length (postfix o.e) + 1 + 2 * W.at ≤ 2 * next
      taken = operand_took d (drop k names) ws W.at next o.e v.goes.within o.within o.leads

      pub carried_further : W.at < next
      carried_further = omega (arith, taken)

      front : take e m ≡ take w post₀ ++ (flat v.goes.p v.goes.f ++ postfix o.e)
      front = o.wrote.front ∙ ap (λ (l : List ℕ). l ++ postfix o.e) v.goes.front ∙ append_assoc (take w post₀) (flat v.goes.p v.goes.f) (postfix o.e)

      pub carried_after : length m ≡ length post → AfterAsks ws next m e W
      carried_after l = record {
        p = v.goes.p;
        f = v.goes.f;
        a = o.e;
        xs = take w post₀;
        counts = v.goes.counts;
        front = front;
        within = o.within;
        few = q.few;
        space = omega (arith, q.space, v.post_length);
        room = omega (arith, taken, v.goes.room, o.wrote.ends);
      }

      leads : parse d (drop k names₀) empty (tokens (drop at ws)) ≡ more d (drop k names₀) v.goes.p (applied v.goes.f o.e) (tokens (drop next ws))
      unfolding follow
      leads = v.goes.leads ∙ ap (λ (z : Read). follow z (λ a s. more d (drop k names₀) v.goes.p (applied v.goes.f a) s))
          (subst (λ (Γ : List ℕ). operand d Γ (tokens (drop W.at ws)) ≡ read o.e (tokens (drop next ws))) v.same o.leads)

      module _ (r : code.Option Step) (l : List ℕ)
          (s : Afters d (drop k names₀) v.goes.p v.goes.f o.e (take w post₀) ws next m e W r l) where
        stepped : {t : code.Option Step} → r ≡ t
            → Stepped d (drop k names₀) (more d (drop k names₀) v.goes.p (applied v.goes.f o.e) (tokens (drop next ws))) (take w post₀) ws l next t
        unfolding Afters
        stepped z = subst (Stepped d (drop k names₀) (more d (drop k names₀) v.goes.p (applied v.goes.f o.e) (tokens (drop next ws))) (take w post₀) ws l next) z
            (s v.goes.counts front)

        pub carried_more : {U : Waiting} → r ≡ code.Some (step.More U) → (names' : List ℕ) → drop k names' ≡ drop k names → length names' ≡ length names
            → length l ≡ length post → Carried ws at d names₀ k post₀ w names' l U × (W.at < U.at) × (U.at ≤ length ws)
        carried_more z names' y u t =
            let g = stepped z in (
              record {
                goes = record {
                  p = g.0.p;
                  f = g.0.f;
                  counts = g.0.counts;
                  within = g.0.within;
                  room = g.0.room;
                  leads = leads ∙ g.0.leads;
                  front = g.0.front;
                };
                later = omega (arith, v.later, carried_further, g.1);
                same = y ∙ v.same;
                names_length = u ∙ v.names_length;
                post_length = t ∙ v.post_length;
              },
              omega (arith, carried_further, g.1),
              g.0.within,
            )

        pub carried_done : {b : ℕ} → r ≡ code.Some (step.Done b) → length l ≡ length post
            → Phrased (parse d (drop k names₀) empty (tokens (drop at ws))) ws w post₀ l next b
        carried_done {b} z t =
            let g = stepped z in
            let i : b ≤ length l = g.inside in
            let j : w ≤ length post₀ = omega (arith, q.room, q.space, q.within) in
            record {
              e = g.e;
              leads = leads ∙ g.leads;
              within = o.within;
              wrote = record {
                ends = omega (arith, ap length g.front, length-take-le b l i, length-take-le w post₀ j, length-append (take w post₀) (postfix g.e));
                inside = omega (arith, i, t, v.post_length);
                front = g.front;
              };
            }

        pub carried_broken : r ≡ code.None → parse d (drop k names₀) empty (tokens (drop at ws)) ≡ nothing
        carried_broken z = leads ∙ stepped z
