-- What an answer is made of.
use Rattle.std.proofs.Common.{◌≡◌, ◌++◌, length, refl, append-nil}
use Rattle.web_service.specs.declared.request.Method.TheVariants.{Get, Head}
use Rattle.web_service.specs.declared.request.Request.{Request}
use Rattle.web_service.specs.Answer.{head_of, status_of, body_of, closes, answer_of}

pub get_is_head_and_body : (request : Request) → answer_of (record request { method = Get }) ≡ answer_of (record request { method = Head }) ++ body_of Get request.page
unfolding answer_of
get_is_head_and_body request = rw append-nil refl

pub get_is_framed : (request : Request) → request.method ≡ Get → answer_of request ≡ head_of (status_of Get request.page) (length (body_of Get request.page)) (closes request) ++ body_of Get request.page
unfolding answer_of
get_is_framed request is = rw is refl
