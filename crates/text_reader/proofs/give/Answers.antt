-- `text_reader::give` meets its contract: each check. Assumes nothing.
use mathlib.Core.Path.{ap}
use mathlib.Core.Bool.{not}
use native.Mathlib.Omega.{arith}
use mathlib.Core.List.{[]}
use Rattle.text_reader.proofs.Giving.{ends_some, no_abs, too_long, too_deep, no_room, encode_at, encoded}
use Rattle.text_reader.proofs.give.Goals as goal

pub overflow_sub-end : goal.overflow_sub-end
overflow_sub-end c = omega (arith, ends_some _ _ _ c.requires.is)

pub bounds-post-end : goal.bounds-post-end
bounds-post-end c = omega (arith, ends_some _ _ _ c.requires.is, c.requires.is.within)

pub returns-then-post-end-ne-LAST : goal.returns-then-post-end-ne-LAST
returns-then-post-end-ne-LAST c = λ e q. no_abs e _ _ q _ c.if-post-end-ne-LAST.true

pub returns-then-n-gt-MOST_BYTES : goal.returns-then-n-gt-MOST_BYTES
returns-then-n-gt-MOST_BYTES c = λ e q. too_long e _ _ q _ c.measure-sizes.ensures.0 _ c.if-n-gt-MOST_BYTES.true

pub returns-then-not-is_shallow : goal.returns-then-not-is_shallow
returns-then-not-is_shallow c = λ e q. too_deep e _ _ q _ c.measure-sizes.ensures.0 _ c.is_shallow.result (c.is_shallow.ensures e q) (ap not c.if-not-is_shallow.true)

pub returns-then-out-n : goal.returns-then-out-n
returns-then-out-n c = λ e q. no_room e _ _ q _ c.measure-sizes.ensures.0 c.if-post-end-ne-LAST.false c.if-n-gt-MOST_BYTES.false c.is_shallow.result (c.is_shallow.ensures e q) (ap not c.if-not-is_shallow.false) _ c.if-out-n.true

pub encode-requires : goal.encode-requires
encode-requires c = let q = c.requires.is in record { e = c.requires.e; xs = []; is = encode_at _ _ _ q _ c.measure-sizes.ensures.0 c.if-post-end-ne-LAST.false c.if-n-gt-MOST_BYTES.false c.is_shallow.result (c.is_shallow.ensures c.requires.e q) (ap not c.if-not-is_shallow.false) _ c.if-out-n.false }

pub returns : goal.returns
returns c = λ e q. encoded e _ _ q _ c.measure-sizes.ensures.0 c.if-post-end-ne-LAST.false c.if-n-gt-MOST_BYTES.false c.is_shallow.result (c.is_shallow.ensures e q) (ap not c.if-not-is_shallow.false) _ c.if-out-n.false _ _ _ (c.encode.ensures e [] (encode_at e _ _ q _ c.measure-sizes.ensures.0 c.if-post-end-ne-LAST.false c.if-n-gt-MOST_BYTES.false c.is_shallow.result (c.is_shallow.ensures e q) (ap not c.if-not-is_shallow.false) _ c.if-out-n.false))
