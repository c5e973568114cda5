-- Requests and responses as contracts see them (RFC 9110).
use Rattle.std.specs.Prelude.{ℕ, List, Option, option_map, codes, refl}
use Rattle.std.specs.Coded.{Coded, code_by, coded_ℕ, coded_list, coded_option, coded×}
use Rattle.http.specs.declared.response.Response.{Response}
use Rattle.http.specs.Response.{head_of, body_of}
use Rattle.http_header.specs.HeaderMap.{Entries, get}
use Rattle.http_header.specs.FieldValue.{FieldValue, field_value_code}

-- a request: its method, the text of its address, its headers and its body
pub record SeenRequest : Type 0 where
  pub method : List ℕ
  pub address : List ℕ
  pub headers : Entries FieldValue
  pub body : List ℕ

-- a response, in all that is read of it: its status, its first `content-type`, and its body
pub record SeenResponse : Type 0 where
  pub status : ℕ
  pub content_type : Option (List ℕ)
  pub body : List ℕ

abbrev pub seen_response : Response (List ℕ) → SeenResponse
seen_response r = record {
  status = (head_of r).status;
  content_type = option_map (λ v. v.bytes) (get (head_of r).headers (codes "content-type"));
  body = body_of r;
}

-- What a request is answered with: a response, or a fault, which is no response.
abbrev pub SeenAnswer : Type 0
SeenAnswer = Option SeenResponse

-- ---- how the logic stores them

abbrev text_code : Coded (List ℕ)
text_code = coded_list coded_ℕ

abbrev pub seen_request_code : Coded SeenRequest
seen_request_code =
    code_by (List ℕ × (List ℕ × (Entries FieldValue × List ℕ)))
    (coded× text_code (coded× text_code (coded× (coded_list (coded× text_code (coded_list field_value_code))) text_code)))
    (λ r. (r.method, (r.address, (r.headers, r.body))))
    (λ p. record { method = p.0; address = p.1.0; headers = p.1.1.0; body = p.1.1.1 }) (λ _. refl)

abbrev pub seen_response_code : Coded SeenResponse
seen_response_code =
    code_by (ℕ × (Option (List ℕ) × List ℕ)) (coded× coded_ℕ (coded× (coded_option text_code) text_code))
    (λ r. (r.status, (r.content_type, r.body))) (λ p. record { status = p.0; content_type = p.1.0; body = p.1.1 }) (λ _. refl)
