use Rattle.lasting_lives.proofs.Rests.{rests_so, dropped_so, not_dropped, not_yet_dropped}
use Rattle.lasting_lives.proofs.laws.what_is_known_says_what_is_dropped.Goals as goal

pub returns-clause-leaving : goal.returns-clause-leaving
returns-clause-leaving c = λ n wait server segment place l r ours small st e old. dropped_so n wait server segment ours place l r small st e old

pub returns-clause-waiting : goal.returns-clause-waiting
returns-clause-waiting c = λ n wait server segment place l r ours small d st e young. not_yet_dropped n wait server segment ours place l r small d st e young

pub returns-clause-others : goal.returns-clause-others
returns-clause-others c = λ n wait server segment place l ours st e. not_dropped n wait server segment ours place l st e

pub returns-clause-numbers : goal.returns-clause-numbers
returns-clause-numbers c = λ n key place l r st e. rests_so n key place l r st e
