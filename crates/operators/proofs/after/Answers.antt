-- `operators::after` meets its contract: each joint. Assumes nothing.
use native.Mathlib.Omega.{arith}
use mathlib.Core.Path.{subst}
use Rattle.operators.specs.Code.{JointAt, Afters}
use Rattle.operators.proofs.Waits.{joint_is, put_end, close_end, step_operand, step_and, step_or, step_arrow, step_end}
use Rattle.operators.proofs.after.Goals as goal

pub close-e-requires : goal.close-e-requires
close-e-requires c = omega (arith, c.requires.room, c.requires.space, c.requires.within, put_end _ _ _ c.args.waiting.apps 0 _ c.put-applied.ensures, c.put-applied.auto.post)

pub begin-requires : goal.begin-requires
begin-requires c = let j = (joint_is c.args.words.now c.args.at c.joint_at.ensures c.in_ok-joint_at.was c.in-And.is) in omega (arith, j.1)

pub close-e-requires-in-Or : goal.close-e-requires-in-Or
close-e-requires-in-Or c = omega (arith, c.requires.room, c.requires.space, c.requires.within, put_end _ _ _ c.args.waiting.apps 0 _ c.put-applied.ensures, c.put-applied.auto.post)

pub begin-requires-in-Or : goal.begin-requires-in-Or
begin-requires-in-Or c = let j = (joint_is c.args.words.now c.args.at c.joint_at.ensures c.in_ok-joint_at.was c.in-Or.is) in omega (arith, j.1)

pub close-e-requires-in-Arrow : goal.close-e-requires-in-Arrow
close-e-requires-in-Arrow c = omega (arith, c.requires.room, c.requires.space, c.requires.within, put_end _ _ _ c.args.waiting.apps 0 _ c.put-applied.ensures, c.put-applied.auto.post)

pub begin-requires-in-Arrow : goal.begin-requires-in-Arrow
begin-requires-in-Arrow c = let j = (joint_is c.args.words.now c.args.at c.joint_at.ensures c.in_ok-joint_at.was c.in-Arrow.is) in omega (arith, j.1)

pub close-e-requires-in-End : goal.close-e-requires-in-End
close-e-requires-in-End c = omega (arith, c.requires.room, c.requires.space, c.requires.within, put_end _ _ _ c.args.waiting.apps 0 _ c.put-applied.ensures, c.put-applied.auto.post)

pub put-requires : goal.put-requires
put-requires c = omega (arith, c.requires.room, c.requires.space, c.requires.within, put_end _ _ _ c.args.waiting.apps 0 _ c.put-applied.ensures, c.put-applied.auto.post, close_end _ _ _ c.args.waiting.nots c.args.waiting.ands c.args.waiting.ors _ c.close-e-in-End.ensures, c.close-e-in-End.auto.post)

pub returns-in-Operand : goal.returns-in-Operand
unfolding Afters
returns-in-Operand c = λ d Γ p f a xs n h. step_operand d Γ p f a xs _ _ _ _ _ c.requires n h _ _ c.put-applied.ensures (joint_is c.args.words.now c.args.at c.joint_at.ensures c.in_ok-joint_at.was c.in-Operand.is)

pub returns-in-And : goal.returns-in-And
unfolding Afters
returns-in-And c = λ d Γ p f a xs n h. step_and d Γ p f a xs _ _ _ _ _ c.requires n h _ _ c.put-applied.ensures (joint_is c.args.words.now c.args.at c.joint_at.ensures c.in_ok-joint_at.was c.in-And.is) _ _ c.close-e.ensures _ c.begin.ensures

pub returns-in-Or : goal.returns-in-Or
unfolding Afters
returns-in-Or c = λ d Γ p f a xs n h. step_or d Γ p f a xs _ _ _ _ _ c.requires n h _ _ c.put-applied.ensures (joint_is c.args.words.now c.args.at c.joint_at.ensures c.in_ok-joint_at.was c.in-Or.is) _ _ c.close-e-in-Or.ensures _ c.begin-in-Or.ensures

pub returns-in-Arrow : goal.returns-in-Arrow
unfolding Afters
returns-in-Arrow c = λ d Γ p f a xs n h. step_arrow d Γ p f a xs _ _ _ _ _ c.requires n h _ _ c.put-applied.ensures (joint_is c.args.words.now c.args.at c.joint_at.ensures c.in_ok-joint_at.was c.in-Arrow.is) _ _ c.close-e-in-Arrow.ensures _ c.begin-in-Arrow.ensures

pub returns-in-End : goal.returns-in-End
unfolding Afters
returns-in-End c = λ d Γ p f a xs n h. step_end d Γ p f a xs _ _ _ _ _ c.requires n h _ _ c.put-applied.ensures (joint_is c.args.words.now c.args.at c.joint_at.ensures c.in_ok-joint_at.was c.in-End.is) _ _ c.close-e-in-End.ensures _ _ c.put.ensures c.put.auto.post

pub returns-in_err-joint_at : goal.returns-in_err-joint_at
unfolding Afters
returns-in_err-joint_at c = λ d Γ p f a xs n h. rw c.from_residual.ensures ((subst (JointAt c.args.words.now c.args.at) c.in_err-joint_at.was c.joint_at.ensures) d Γ p _)
