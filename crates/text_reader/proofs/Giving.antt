-- Laws of giving a term's bytes, and of reading words and text. Assumes nothing.
use Prim.Native.Nat.{ℕ, suc, ◌+◌, ◌-◌, ◌≤◌, ◌<◌}
use mathlib.Core.Path.{◌≡◌, refl, sym, ap, subst, ◌∙◌}
use mathlib.Core.Bool.{Bool, true, false}
use mathlib.Core.Bool as bool
use mathlib.Core.List.{List, [], ◌∷◌, ◌++◌}
use mathlib.Core.Option.{Option, none, some}
use native.Mathlib.Omega.{arith}
use lib.ListN.{length, get_or, take, drop, drop_of_length-le}
use lib.Seq.{drop-cons, length-take-le}
use lib.Dec.{leb}
use borrow.Author.Tests.{le-leb, lt-leb, leb-true, leb-false, not-true, not-false}
use Rattle.calculus.specs.Term.{Term, ClosedUnder, nesting}
use Rattle.calculus.specs.Bytes.{bytes, rule}
use Rattle.calculus.proofs.Rule.{rule_exact}
use Rattle.table.proofs.Words.{zero_one}
use Rattle.table.specs.Outcome.{Outcome, whole_out, into_out}
use Rattle.table.specs.declared.Refusal.TheVariants.{Rule, Out, RuleText}
use Rattle.grammar.specs.Expression.{Expression, leaf, var, app, abs, not, and, or, implies}
use Rattle.grammar.specs.Meaning.{term_of, K, I, stem_of_stem, and_tree, or_tree, implies_tree, not_tree}
use Rattle.grammar.specs.Postfix.{total, abstractions}
use Rattle.grammar.specs.Reader.{nothing, read, empty, parse}
use Rattle.grammar.specs.Words.{tokens, token, lex}
use Rattle.grammar.specs.Text.{all_read, of_words, read_text}
use Rattle.grammar.specs.Outcome.{Encoded, of_bytes, of_reading, rule_text}
use Rattle.grammar.proofs.Exact.{bytes_no_rule}
use Rattle.grammar.proofs.Sound.{sound}
use Rattle.grammar.proofs.Text.{closed}
use Rattle.parser.specs.Code.{Phrased}
use Rattle.encoder.specs.Code.{EncodeAt, EncodeGives}
use Rattle.symbols.specs.Code.{Small, Nests}
use Rattle.symbols.proofs.Symbols.{total_postfix}
use Rattle.symbols.proofs.Counting.{nests_few}
use Rattle.symbols.proofs.Symbols.{symbol, is_symbol, has_symbol}
use Rattle.lexer.specs.Code.{Lexes}
use Rattle.std.specs.Prelude as code
use Rattle.std.specs.Prelude.{Result, Ok, Err}
use Rattle.text_reader.specs.Code.{Stands, WordRoom, TextRoom}

-- closed terms with few abstractions nested have small variables
small : (e : Expression) (d : ℕ) → ClosedUnder d (term_of e) → d + nesting (term_of e) ≤ 16 → Small e
unfolding term_of nesting K I stem_of_stem and_tree or_tree implies_tree not_tree
small leaf d c h = tt
small (var i) d c h = omega arith
small (app f a) d c h = (small f d c.0 (omega arith), small a d c.1 (omega arith))
small (abs b) d c h = small b (suc d) c (omega arith)
small (not a) d c h = small a d c.1 (omega arith)
small (and a b) d c h = (small a d c.0.1 (omega arith), small b d c.1 (omega arith))
small (or a b) d c h = (small a d c.0.1 (omega arith), small b d c.1 (omega arith))
small (implies a b) d c h = (small a d c.0.1 (omega arith), small b d c.1 (omega arith))

-- an abstraction
pub record IsAbs (e : Expression) : Type 0 where
  pub body : Expression
  pub is : e ≡ abs body

is_abs : (e : Expression) → symbol e ≡ 4 → IsAbs e
unfolding symbol
is_abs leaf h = absurd (omega arith)
is_abs (var i) h = absurd (omega arith)
is_abs (app f a) h = absurd (omega arith)
is_abs (abs b) h = record { body = b; is = refl }
is_abs (not a) h = absurd (omega arith)
is_abs (and a b) h = absurd (omega arith)
is_abs (or a b) h = absurd (omega arith)
is_abs (implies a b) h = absurd (omega arith)

not_abs : (e : Expression) (b : Term) → term_of e ≡ Term.abs b → symbol e ≡ 4
unfolding symbol term_of
not_abs leaf b h = zero_one (cc)
not_abs (var i) b h = zero_one (cc)
not_abs (app f a) b h = zero_one (cc)
not_abs (abs e) b h = refl
not_abs (not a) b h = zero_one (cc)
not_abs (and a c) b h = zero_one (cc)
not_abs (or a c) b h = zero_one (cc)
not_abs (implies a c) b h = zero_one (cc)

-- what is given for a term that is read
abbrev Given : Expression → List ℕ → Encoded → List ℕ → Type 0
Given e out r m = whole_out r [] [] m ≡ of_bytes (bytes (term_of e)) (rule (bytes (term_of e))) out

module _ (e : Expression) (post : List ℕ) (end : ℕ) (q : Stands e post end) where
  pub ends_symbol : get_or post (end - 1) 0 ≡ symbol e
  ends_symbol = is_symbol e [] post end q.stands q.within

  pub ends_some : 0 < end
  ends_some = has_symbol e [] post end q.stands q.within

  -- 5: the term is no rule
  module _ (out : List ℕ) where
    refuses : rule (bytes (term_of e)) ≡ none → Given e out (Err Rule) out
    unfolding of_bytes
    refuses r = rw r

    pub no_abs : (get_or post (end - 1) 0 ≡ 4 → ⊥) → Given e out (Err Rule) out
    no_abs n = refuses (bytes_no_rule e (λ r. n (ends_symbol ∙ not_abs e r.body r.begins)))

  module _ (n : ℕ) (s : n ≡ total (take end post)) where
    counted : n ≡ length (bytes (term_of e))
    counted = s ∙ ap total q.stands ∙ total_postfix e

    pub too_long : (out : List ℕ) → 4096 < n → Given e out (Err Rule) out
    too_long out h = refuses out (bytes_no_rule e (λ r. omega (arith, r.short, counted)))

    pub too_deep : (out : List ℕ) (z : Bool) → z ≡ leb (nesting (term_of e)) 16 → bool.not z ≡ true → Given e out (Err Rule) out
    too_deep out z d n =
        let k = leb-false (nesting (term_of e)) 16 (sym d ∙ not-true z n) in
        refuses out (bytes_no_rule e (λ r. omega (arith, r.shallow, k)))

    -- 10, or the bytes: the term is a rule
    module _ (a : get_or post (end - 1) 0 ≡ 4) (l : n ≤ 4096) (y : Bool) (d : y ≡ leb (nesting (term_of e)) 16) (o : bool.not y ≡ false) where
      shallow : nesting (term_of e) ≤ 16
      shallow = leb-true (nesting (term_of e)) 16 (sym d ∙ not-false y o)

      is_rule : rule (bytes (term_of e)) ≡ some (term_of e)
      unfolding term_of
      is_rule =
          let b = is_abs e (sym ends_symbol ∙ a) in
          (rule_exact (bytes (term_of e)) (term_of e)).1 (record {
            body = term_of b.body;
            begins = ap term_of b.is;
            whole = refl;
            closed = q.closed;
            short = omega (arith, counted);
            shallow = shallow;
          })

      pub no_room : (out : List ℕ) → length out < n → Given e out (Err Out) out
      unfolding of_bytes into_out
      no_room out g = let k : length out < length (bytes (term_of e)) = omega (arith, counted) in rw (is_rule, lt-leb _ _ k)

      pub encode_at : (out : List ℕ) → n ≤ length out → EncodeAt e [] post end out n
      encode_at out g = record {
        stands = q.stands;
        within = q.within;
        room = omega (arith, counted);
        inside = g;
        small = small e 0 q.closed (omega (arith, shallow));
      }

      pub encoded : (out : List ℕ) → n ≤ length out → (from at : ℕ) (w : List ℕ) → EncodeGives e [] out n from at w → Given e out (Ok n) w
      unfolding of_bytes into_out
      encoded out g from at w x =
          let z : at ≡ 0 = omega (arith, x.laid.ends, counted) in
          let k : length (bytes (term_of e)) ≤ length out = omega (arith, counted) in
          let y : w ≡ bytes (term_of e) ++ drop n out = ap (λ (i : ℕ). drop i w) (sym z) ∙ x.laid.stored in
          rw (is_rule, le-leb _ _ k, y, counted)

-- how many abstractions nest
module _ (e : Expression) (post : List ℕ) (end : ℕ) (q : Stands e post end) where
  pub few_shallow : (c : ℕ) → c ≡ abstractions (take end post) → c ≤ 16 → true ≡ leb (nesting (term_of e)) 16
  few_shallow c s h =
      let k : nesting (term_of e) ≤ 16 = omega (arith, nests_few e, s, ap abstractions q.stands) in
      sym (le-leb (nesting (term_of e)) 16 k)

  pub nests_shallow : (m i : ℕ) → Nests e [] i m → leb m 16 ≡ leb (nesting (term_of e)) 16
  nests_shallow m i d = ap (λ (k : ℕ). leb k 16) d.deep

-- words
module _ (ws names post : List ℕ) (k : ℕ) (g : length names ≤ k) where
  no_names : drop k names ≡ []
  no_names = drop_of_length-le names g

  pub words_none : parse 32 (drop k names) empty (tokens (drop 0 ws)) ≡ nothing → (out : List ℕ)
      → whole_out (Err RuleText) [] [] out ≡ of_reading (of_words (some ws)) out
  unfolding of_reading of_words all_read
  words_none h out =
      let z : parse 32 [] empty (tokens ws) ≡ nothing = subst (λ (Γ : List ℕ). parse 32 Γ empty (tokens ws) ≡ nothing) no_names h in
      rw z

  module _ (m : List ℕ) (next end : ℕ) (o : Phrased (parse 32 (drop k names) empty (tokens (drop 0 ws))) ws 0 post m next end) where
    reads : parse 32 [] empty (tokens ws) ≡ read o.e (tokens (drop next ws))
    reads = subst (λ (Γ : List ℕ). parse 32 Γ empty (tokens ws) ≡ read o.e (tokens (drop next ws))) no_names o.leads

    pub words_more : next < length ws → (out : List ℕ) → whole_out (Err RuleText) [] [] out ≡ of_reading (of_words (some ws)) out
    unfolding of_reading of_words all_read tokens
    words_more h out =
        let z : tokens (drop next ws) ≡ token (get_or ws next 0) ∷ tokens (drop (suc next) ws) = ap tokens (drop-cons ws next 0 h) in
        let y : parse 32 [] empty (tokens ws) ≡ read o.e (token (get_or ws next 0) ∷ tokens (drop (suc next) ws)) = reads ∙ ap (read o.e) z in
        rw y

    module _ (h : length ws ≤ next) where
      all_words : parse 32 [] empty (tokens ws) ≡ read o.e []
      unfolding tokens
      all_words = reads ∙ ap (λ (x : List ℕ). read o.e (tokens x)) (drop_of_length-le ws h)

      pub words_stand : length m ≡ length post → length post ≤ 16384 → Stands o.e m end
      words_stand l f = record {
        stands = o.wrote.front;
        closed = closed (sound 32 [] (tokens ws) o.e [] all_words).0;
        within = omega (arith, o.wrote.inside);
        few = omega (arith, o.wrote.inside);
      }

      pub words_given : (out : List ℕ) {x : Outcome Encoded} → x ≡ of_bytes (bytes (term_of o.e)) (rule (bytes (term_of o.e))) out
          → x ≡ of_reading (of_words (some ws)) out
      unfolding of_reading of_words all_read
      words_given out q = rw all_words q

-- text
pub text_broken : (l out : List ℕ) → length l ≤ 8192 → lex 0 0 l ≡ none → whole_out (Err RuleText) [] [] out ≡ rule_text l out
unfolding rule_text of_reading read_text of_words
text_broken l out h e = rw (le-leb (length l) 8192 h, e)

pub text_read : (l out ws : List ℕ) {x : Outcome Encoded} → length l ≤ 8192 → lex 0 0 l ≡ some ws → x ≡ of_reading (of_words (some ws)) out → x ≡ rule_text l out
unfolding rule_text read_text
text_read l out ws h e q = rw (le-leb (length l) 8192 h, e) q

pub lexed_broken : (o : Option (List ℕ)) (n : ℕ) (ws : List ℕ) (r : code.Option ℕ) → Lexes o n ws r → r ≡ code.None → o ≡ none
unfolding Lexes
lexed_broken o n ws r h e = subst (Lexes o n ws) e h

pub lexed_words : (o : Option (List ℕ)) (n : ℕ) (ws : List ℕ) (r : code.Option ℕ) (k : ℕ) → Lexes o n ws r → r ≡ code.Some k → (o ≡ some (take k ws)) × (k ≤ n) × (k ≤ length ws)
unfolding Lexes
lexed_words o n ws r k h e = subst (Lexes o n ws) e h

pub text_words : (l ws m names post : List ℕ) (k : ℕ) → TextRoom l ws names post → k ≤ length l → k ≤ length m → WordRoom (take k m) names post
text_words l ws m names post k h a b =
    let e : length (take k m) ≡ k = length-take-le k m b in
    record {
      few = omega (arith, h.few);
      names_enough = omega (arith, h.names_enough);
      names_few = h.names_few;
      space = omega (arith, h.space);
      post_few = h.post_few;
    }
