mod Sendable
