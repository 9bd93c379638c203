-- The answer to a request (RFC 9110, section 15; RFC 9112, sections 4 and 6).
use Rattle.std.specs.Prelude.{ℕ, zero, suc, ◌%◌, Bool, true, false, ◌||◌, not, List, [], ◌∷◌, ◌++◌, length, decimal, codes, if◌then◌else◌}
use Rattle.web_service.specs.declared.request.Method.{Method}
use Rattle.web_service.specs.declared.request.Method.TheVariants.{Get, Head, Other}
use Rattle.web_service.specs.declared.request.Page.{Page}
use Rattle.web_service.specs.declared.request.Page.TheVariants.{Home, Bytes, Count, Missing}
use Rattle.web_service.specs.declared.request.Version.{Version}
use Rattle.web_service.specs.declared.request.Version.TheVariants.{Ten, Eleven}
use Rattle.web_service.specs.declared.request.Request.{Request}
use Rattle.web_service.specs.declared.answer.Status.{Status}
use Rattle.web_service.specs.declared.answer.Status.TheVariants.{Good, BadRequest, NotFound, MethodNotAllowed, UriTooLong, FieldsTooLarge}
use Rattle.web_service.specs.declared.answer.Status.TheVariants.{NotImplemented, Unavailable, VersionNotSupported}

-- the status line. Status 405 lists the methods that are allowed
unfoldable pub status_line : Status → List ℕ
status_line Good = codes "HTTP/1.1 200 OK\r\n"
status_line BadRequest = codes "HTTP/1.1 400 Bad Request\r\n"
status_line NotFound = codes "HTTP/1.1 404 Not Found\r\n"
status_line MethodNotAllowed = codes "HTTP/1.1 405 Method Not Allowed\r\nAllow: GET, HEAD\r\n"
status_line UriTooLong = codes "HTTP/1.1 414 URI Too Long\r\n"
status_line FieldsTooLarge = codes "HTTP/1.1 431 Request Header Fields Too Large\r\n"
status_line NotImplemented = codes "HTTP/1.1 501 Not Implemented\r\n"
status_line Unavailable = codes "HTTP/1.1 503 Service Unavailable\r\n"
status_line VersionNotSupported = codes "HTTP/1.1 505 HTTP Version Not Supported\r\n"

-- whether the connection persists, and the empty line
unfoldable pub connection_line : Bool → List ℕ
connection_line true = codes "\r\nConnection: close\r\n\r\n"
connection_line false = codes "\r\nConnection: keep-alive\r\n\r\n"

-- an answer without its body
unfoldable pub head_of : Status → ℕ → Bool → List ℕ
head_of status len closes = status_line status ++ codes "Content-Length: " ++ decimal len ++ connection_line closes

-- byte i is i modulo 251
unfoldable pub made_bytes : ℕ → List ℕ
made_bytes zero = []
made_bytes (suc n) = made_bytes n ++ n % 251 ∷ []

-- the numbers from 1 to n, each on a line
unfoldable pub made_lines : ℕ → List ℕ
made_lines zero = []
made_lines (suc n) = made_lines n ++ decimal (suc n) ++ codes "\n"

unfoldable pub home_text : List ℕ
home_text = codes "A web server whose answers are made, so that it gives the same ones again after a crash.\n/bytes/N has N bytes, and /count/N has N numbered lines.\n"

unfoldable pub content : Page → List ℕ
content Home = home_text
content (Bytes n) = made_bytes n
content (Count n) = made_lines n
content Missing = []

abbrev pub is_found : Page → Bool
is_found Home = true
is_found (Bytes n) = true
is_found (Count n) = true
is_found Missing = false

abbrev pub allowed : Method → Status
allowed Get = Good
allowed Head = Good
allowed Other = MethodNotAllowed

abbrev pub status_of : Method → Page → Status
status_of method page = if is_found page then allowed method else NotFound

abbrev pub body_of : Method → Page → List ℕ
body_of Get page = content page
body_of Head page = content page
body_of Other page = []

-- HEAD is answered without the body
abbrev pub sent_body : Method → List ℕ → List ℕ
sent_body Get body = body
sent_body Head body = []
sent_body Other body = body

-- whether the connection closes after the answer (RFC 9112, section 9.3): 1.1 keeps it open unless asked to close it, and 1.0 closes it unless asked to keep it
abbrev pub closes_by_itself : Version → Bool → Bool
closes_by_itself Ten keep = not keep
closes_by_itself Eleven keep = false

abbrev pub closes : Request → Bool
closes request = request.close || closes_by_itself request.version request.keep

unfoldable pub answer_of : Request → List ℕ
answer_of request =
    let body = body_of request.method request.page in
    head_of (status_of request.method request.page) (length body) (closes request) ++ sent_body request.method body
