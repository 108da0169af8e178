-- Which of the plain weigh head's calls a value of `WeighCall` is, with the run that is lent, and
-- what an answer says.
-- Assumes nothing.
use Rattle.std.specs.Prelude.{ℕ}
use Rattle.std.specs.declared.result.Result.{Result}
use Rattle.std.specs.declared.result.Result.TheVariants.{Ok, Err}
use Rattle.types.specs.declared.refusals.Refusal.{Refusal}
use Rattle.watched.specs.Watched.{Run}
use Rattle.node.specs.Plain as plain
use Rattle.calling.specs.Values as calling
use Rattle.weigh.specs.declared.WeighCall.{WeighCall}
use Rattle.weigh.specs.declared.WeighCall.TheVariants as call
use Rattle.weigh.specs.declared.WeighAnswer.{WeighAnswer}
use Rattle.weigh.specs.declared.WeighAnswer.TheVariants as answer
use Rattle.weigh.specs.PlainWeigh.{Call, node_call, load_recipe, weight, Answer, node_answer, weight_answer, refused}

-- the plain call, with the run that is lent
abbrev pub call_of : WeighCall → Run → Call
call_of (call.Node c) r = node_call (calling.call_of c r)
call_of (call.LoadRecipe cs) r = load_recipe cs.now
call_of (call.Weight i) r = weight i

-- what an answer says
abbrev pub says : WeighAnswer → Answer
says (answer.Node a) = node_answer (calling.says a)
says answer.Loaded = node_answer plain.taken
says (answer.Weight g) = weight_answer g

-- what comes back from a call
abbrev pub Reply : Type 0
Reply = Result WeighAnswer Refusal

-- what comes back, as the plain answer
abbrev pub said : Reply → Answer
said (Ok a) = says a
said (Err r) = refused r

-- what comes back from a weight, as the plain answer
abbrev pub weight_said : Result ℕ Refusal → Answer
weight_said (Ok g) = weight_answer g
weight_said (Err r) = refused r
