-- What a request says: its request line and its fields (RFC 9112, sections 3 and 5), as far as they matter to this server.
use Rattle.std.specs.Prelude.{ℕ, Bool, true, false, ◌==◌, ◌&&◌, ◌||◌, not, nat_le, Some, None, is_some, Result, Ok, Err, List, length, take, drop}
use Rattle.std.specs.Prelude.{bytes_eq, codes, slice_index, if◌then◌else◌}
use Rattle.std.specs.List.{list_any, before_first, after_first, position_or_len}
use Rattle.std.specs.Char.{is_ascii_digit}
use Rattle.web_service.specs.Text.{is_plain, is_token, is_host, is_number, number, same_word, trimmed, has_option}
use Rattle.web_service.specs.declared.request.Method.{Method}
use Rattle.web_service.specs.declared.request.Method.TheVariants.{Get, Head, Other}
use Rattle.web_service.specs.declared.request.Page.{Page}
use Rattle.web_service.specs.declared.request.Page.TheVariants.{Home, Bytes, Count, Missing}
use Rattle.web_service.specs.declared.request.Version.{Version}
use Rattle.web_service.specs.declared.request.Version.TheVariants.{Ten, Eleven}
use Rattle.web_service.specs.declared.request.Request.{Request}
use Rattle.web_service.specs.declared.answer.Status.{Status}
use Rattle.web_service.specs.declared.answer.Status.TheVariants.{BadRequest, VersionNotSupported}

-- HTTP-version = "HTTP/" DIGIT "." DIGIT
unfoldable pub is_version : List ℕ → Bool
is_version word =
    length word == 8 && bytes_eq (take 5 word) (codes "HTTP/") && is_ascii_digit (slice_index word 5) && slice_index word 6 == 46
    && is_ascii_digit (slice_index word 7)

-- a minor version above 1 is taken as 1
unfoldable pub version_of : List ℕ → Result Version Status
version_of word =
    if is_version word
    then (if slice_index word 5 == 49 then Ok (if slice_index word 7 == 48 then Ten else Eleven) else Err VersionNotSupported)
    else Err BadRequest

unfoldable pub method_of : List ℕ → Method
method_of word = if bytes_eq word (codes "GET") then Get else if bytes_eq word (codes "HEAD") then Head else Other

-- the bytes from the first slash on
abbrev pub from_slash : List ℕ → List ℕ
from_slash bytes = drop (position_or_len (λ byte. byte == 47) bytes) bytes

-- the path and the query of a target. In a target with a scheme, an authority precedes them
unfoldable pub path_of : List ℕ → List ℕ
path_of target = if same_word (take 7 target) (codes "http://") then from_slash (drop 7 target) else target

-- whether a word is a number up to this limit
abbrev pub within : ℕ → List ℕ → Bool
within limit word = is_number word && nat_le (number word) limit

abbrev pub bytes_page : List ℕ → Page
bytes_page word = if within 1000000 word then Bytes (number word) else Missing

abbrev pub count_page : List ℕ → Page
count_page word = if within 100000 word then Count (number word) else Missing

-- the page at a path without its query
unfoldable pub page_at : List ℕ → Page
page_at path =
    if length path == 0 || bytes_eq path (codes "/")
    then Home
    else if bytes_eq (take 7 path) (codes "/bytes/")
    then bytes_page (drop 7 path)
    else if bytes_eq (take 7 path) (codes "/count/")
    then count_page (drop 7 path)
    else Missing

unfoldable pub page_of : List ℕ → Page
page_of target = page_at (before_first (λ byte. byte == 63) (path_of target))

-- a request before its fields
abbrev pub asked : Method → Page → Version → Request
asked method page version = record {
  method = method;
  page = page;
  version = version;
  host = false;
  length = None;
  close = false;
  keep = false;
  coding = false;
}

-- the parts of a request line
abbrev pub asked_in : List ℕ → List ℕ → Result Version Status → Result Request Status
asked_in method target (Err status) = Err status
asked_in method target (Ok version) =
    if is_token method && not (length target == 0) then Ok (asked (method_of method) (page_of target) version) else Err BadRequest

-- request-line = method SP request-target SP HTTP-version
unfoldable pub request_line : List ℕ → Result Request Status
request_line line =
    let rest = after_first (λ byte. byte == 32) line in
    if is_plain line
    then asked_in (before_first (λ byte. byte == 32) line) (before_first (λ byte. byte == 32) rest) (version_of (after_first (λ byte. byte == 32) rest))
    else Err BadRequest

-- one more field, of this name and value. Host comes at most once, and so does Content-Length, which is a number
unfoldable pub with_named : Request → List ℕ → List ℕ → Result Request Status
with_named request name value =
    if same_word name (codes "host")
    then (if request.host || not (is_host value) then Err BadRequest else Ok (record request { host = true }))
    else if same_word name (codes "content-length")
    then (if is_some request.length || not (is_number value) then Err BadRequest else Ok (record request { length = Some (number value) }))
    else if same_word name (codes "transfer-encoding")
    then Ok (record request { coding = true })
    else if same_word name (codes "connection")
    then Ok (record request { close = request.close || has_option (codes "close") value; keep = request.keep || has_option (codes "keep-alive") value })
    else Ok request

-- field-line = field-name ":" OWS field-value OWS
unfoldable pub with_field : Request → List ℕ → Result Request Status
with_field request line =
    let name = before_first (λ byte. byte == 58) line in
    if is_plain line && list_any (λ byte. byte == 58) line && is_token name
    then with_named request name (trimmed (after_first (λ byte. byte == 58) line))
    else Err BadRequest
